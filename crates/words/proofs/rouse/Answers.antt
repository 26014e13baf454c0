-- Read, unblocked, woken, written.
use Rattle.words.proofs.Tasks.{roused-shows}
use borrow.Author.Rules.{rules}
use Rattle.words.proofs.rouse.Goals as goal

pub returns : goal.returns
returns c = search (roused-shows, rules)
