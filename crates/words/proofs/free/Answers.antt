-- What stands where no request does.
use Rattle.words.proofs.Slots.{freed}
use borrow.Author.Rules.{rules}
use Rattle.words.proofs.free.Goals as goal

pub returns : goal.returns
returns c = search (freed, rules)
