-- The mark and the queue, put together.
use Rattle.scanning.proofs.Stored.{place-within, left_at}
use borrow.Author.Rules.{rules}
use Rattle.scanning.proofs.leave_at.Goals as goal

pub remove_at-out-requires : goal.remove_at-out-requires
remove_at-out-requires c = search (place-within, rules)

pub returns : goal.returns
returns c = search (left_at, rules)
