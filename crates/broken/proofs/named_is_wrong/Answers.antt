use Rattle.broken.proofs.Requests.{named_else}
use borrow.Author.Rules.{rules}
use Rattle.broken.proofs.named_is_wrong.Goals as goal

pub returns-else-slots-b-ne0 : goal.returns-else-slots-b-ne0
returns-else-slots-b-ne0 c = search (named_else, rules)
