-- The marks, the task, the queue and the stock, put together.
use Rattle.scanning.proofs.Stored.{place-within, granted_so}
use borrow.Author.Rules.{rules}
use Rattle.scanning.proofs.grant.Goals as goal

pub remove_at-out-requires : goal.remove_at-out-requires
remove_at-out-requires c = search (place-within, rules)

pub returns : goal.returns
returns c = search (granted_so, rules)
