use borrow.Author.Rules.{rules}
use Rattle.broken.proofs.Weights.{sums_more, sums_done}
use Rattle.broken.proofs.four_weight.Goals as goal

pub loop-j-preserved : goal.loop-j-preserved
loop-j-preserved c = (search rules, search (sums_more, rules))

pub returns : goal.returns
returns c = record { weight = search (sums_done, rules); bounded = search rules }
