-- Nothing changes where the batches are set up; else the first batch is made.
use borrow.Author.Rules.{rules}
use Rattle.batches.proofs.Setting.{set_already, set_now}
use Rattle.batches.proofs.Batches.set_up.Goals as goal

pub returns-in-None : goal.returns-in-None
returns-in-None c = search (set_now, rules)

pub returns-in-Some : goal.returns-in-Some
returns-in-Some c = search (set_already, rules)
