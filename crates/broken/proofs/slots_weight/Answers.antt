use borrow.Author.Rules.{rules}
use Rattle.broken.proofs.Weights.{sums_four, fours_done}
use Rattle.broken.proofs.slots_weight.Goals as goal

pub loop-i-preserved : goal.loop-i-preserved
loop-i-preserved c = (search rules, search (sums_four, rules))

pub returns : goal.returns
returns c = search (fours_done, rules)
