use Rattle.rules.proofs.Places.{unmap}
use Rattle.broken.proofs.Deciding.{none_seen, slots_judged}
use borrow.Author.Rules.{rules}
use Rattle.broken.proofs.slots_are_broken.Goals as goal

pub mark_named-requires : goal.mark_named-requires
mark_named-requires c = (search rules, none_seen 256)

pub returns : goal.returns
returns c = search (slots_judged, rules, unmap)
