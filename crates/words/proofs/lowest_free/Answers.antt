-- Found at the first that is free; or all were passed.
use borrow.Author.Rules.{rules}
use Rattle.words.proofs.Lowest.{free_here, used_here, none_free}
use Rattle.words.proofs.lowest_free.Goals as goal

pub returns-then-slots-i-eq0 : goal.returns-then-slots-i-eq0
returns-then-slots-i-eq0 c = search (free_here, rules)

pub loop-i-preserved : goal.loop-i-preserved
loop-i-preserved c = search (used_here, rules)

pub returns : goal.returns
returns c = search (none_free, rules)
