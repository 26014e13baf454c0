-- Who, and when.
use Rattle.fresh.proofs.Starting.{gives-fresh}
use Rattle.fresh.proofs.begin.Goals as goal

pub returns : goal.returns
returns c =
    let z = c.requires in
    gives-fresh _ _ _ z.3.makers _ c.start_who-head.ensures c.start_when-batches.ensures
