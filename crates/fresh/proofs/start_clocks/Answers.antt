use borrow.Author.Rules.{rules}
use Rattle.fresh.proofs.Rows.{row-there, row_fits, makes_none, makes_more, makes_all}
use Rattle.fresh.proofs.start_clocks.Goals as goal

pub loop-i-init : goal.loop-i-init
loop-i-init c = search (makes_none, rules)

pub overflow_mul-i : goal.overflow_mul-i
overflow_mul-i c = search (row_fits, rules)

pub starting_clock-c-requires : goal.starting_clock-c-requires
starting_clock-c-requires c = (search rules, search (row-there, rules))

pub loop-i-preserved : goal.loop-i-preserved
loop-i-preserved c = search (makes_more, rules)

pub returns : goal.returns
returns c = search (makes_all, rules)
