-- Cleared words, and a head for which nobody waits.
use borrow.Author.Rules.{rules}
use Rattle.fresh.proofs.Starting.{who_starts}
use Rattle.fresh.proofs.start_who.Goals as goal

pub returns : goal.returns
returns c = search (who_starts, rules)
