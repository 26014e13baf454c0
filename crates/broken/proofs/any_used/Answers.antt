use Rattle.broken.proofs.Weights.{four_free}
use borrow.Author.Rules.{rules}
use Rattle.broken.proofs.any_used.Goals as goal

pub returns-else-slots-b-ne0-3 : goal.returns-else-slots-b-ne0-3
returns-else-slots-b-ne0-3 c = search (four_free, rules)
