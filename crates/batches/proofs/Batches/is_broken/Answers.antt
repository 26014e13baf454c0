-- By the grounds of refusal 14, one after the other.
use borrow.Author.Rules.{rules}
use Rattle.batches.proofs.Breaking.{not-set_up, beyond, not-adding_up}
use Rattle.batches.proofs.Batches.is_broken.Goals as goal

pub returns-in-None : goal.returns-in-None
returns-in-None c = search (not-set_up, rules)

pub returns-then-ring-gt-PLACES : goal.returns-then-ring-gt-PLACES
returns-then-ring-gt-PLACES c = search (beyond, rules)

pub returns-else-ring-gt-PLACES : goal.returns-else-ring-gt-PLACES
returns-else-ring-gt-PLACES c = search (not-adding_up, rules)
