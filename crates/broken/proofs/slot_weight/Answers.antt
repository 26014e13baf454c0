use Rattle.broken.proofs.Weights.{word_weighs, wrong_weighs, right_weighs}
use borrow.Author.Rules.{rules}
use Rattle.broken.proofs.slot_weight.Goals as goal

pub returns-in-1 : goal.returns-in-1
returns-in-1 c = search (wrong_weighs, rules)

pub returns-in-1-2 : goal.returns-in-1-2
returns-in-1-2 c = search (right_weighs, rules)

pub returns-in_default : goal.returns-in_default
returns-in_default c = search (word_weighs, rules)
