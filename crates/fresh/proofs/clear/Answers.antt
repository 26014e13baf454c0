use Rattle.fresh.proofs.Clearing.{filled}
use Rattle.fresh.proofs.clear.Goals as goal

pub returns : goal.returns
returns c = let h = c.fill.ensures in filled _ _ h.len h.clones_before_last h.last
