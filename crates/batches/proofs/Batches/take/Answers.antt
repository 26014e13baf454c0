-- The clock is joined, and a meal eaten.
use borrow.Author.Rules.{rules}
use Rattle.batches.proofs.Joining.{joins_last}
use Rattle.batches.proofs.Batches.take.Goals as goal

pub returns : goal.returns
returns c = record { fed = search rules; latest = search (joins_last, rules) }
