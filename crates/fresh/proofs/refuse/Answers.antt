-- Cleared words, nobody waits, and the batches are not set up.
use Rattle.fresh.proofs.Starting.{gives-refused}
use Rattle.fresh.proofs.refuse.Goals as goal

pub returns : goal.returns
returns c =
    let z = c.requires in
    gives-refused _ _ _ z.makers _ c.start_who-head.ensures c.const_new-batches.ensures c.clear.ensures z.last z.ring z.clocks
