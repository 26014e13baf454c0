use borrow.Author.Rules.{rules}
use Rattle.batches.proofs.Summing.{wider, sums_none, sum_fits, sums_more, finds_empty, sums_whole}
use Rattle.batches.proofs.PermitClocks.adds_up.Goals as goal

pub loop-i-init : goal.loop-i-init
loop-i-init c = sums_none _ _

pub returns-then-size-eq0 : goal.returns-then-size-eq0
returns-then-size-eq0 c = search (finds_empty, rules)

pub overflow_cast-size : goal.overflow_cast-size
overflow_cast-size c = search (wider, rules)

pub overflow_add-sum : goal.overflow_add-sum
overflow_add-sum c = search (sum_fits, rules)

pub loop-i-preserved : goal.loop-i-preserved
loop-i-preserved c = search (sums_more, c.if-size-eq0.false, rules)

pub returns : goal.returns
returns c = search (sums_whole, rules)
