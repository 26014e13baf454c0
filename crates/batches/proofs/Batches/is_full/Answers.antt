-- As many stand as the ring counts.
use borrow.Author.Rules.{rules}
use Rattle.batches.proofs.Setting.{full-ready}
use Rattle.batches.proofs.Batches.is_full.Goals as goal

pub returns-in-Some : goal.returns-in-Some
returns-in-Some c = λ sizes rows. search (full-ready, rules)
