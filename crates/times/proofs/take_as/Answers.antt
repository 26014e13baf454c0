-- The actor's clock, a meal, and its tick and join.
use Rattle.times.proofs.Actor.{taken}
use Rattle.times.proofs.take_as.Goals as goal

pub returns : goal.returns
returns c =
    let a = c.args in
    λ makers. taken a.b a.sizes.now a.rows.now a.last.now makers a.clocks.now a.stock a.me a.n _ _ _ _ _ _ c.clock_in-mine.ensures c.take-eaten.ensures c.put_ticked.ensures
