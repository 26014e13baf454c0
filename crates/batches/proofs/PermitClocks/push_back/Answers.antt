-- The place behind the last is written, and counted.
use borrow.Author.Rules.{rules}
use Rattle.batches.proofs.Batching.{pushed}
use Rattle.batches.proofs.PermitClocks.push_back.Goals as goal

pub returns : goal.returns
returns c = record { range = search rules; view = search (pushed, rules) }
