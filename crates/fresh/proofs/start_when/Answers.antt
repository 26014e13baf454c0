-- The clocks; and the first batch with the maker's, or none yet.
use Rattle.splitting.specs.Asking.{fresh_batches}
use Rattle.fresh.proofs.Starting.{made_starts, unmade_starts}
use Rattle.fresh.proofs.start_when.Goals as goal

pub returns-in-Some : goal.returns-in-Some
returns-in-Some c =
    let z = c.requires in
    rw c.in-Some.is
    (made_starts _ _ _ _ _ _ _ c.clear.ensures z.4 c.start_clocks.ensures z.5 _ _ _ _ _ _ _ z.3 c.new.auto.sizes c.new.auto.rows (z.2 _ c.in-Some.is) c.clock_in-clock.ensures c.new.ensures)

pub returns-in-None : goal.returns-in-None
unfolding fresh_batches
returns-in-None c =
    let z = c.requires in
    rw c.in-None.is (unmade_starts _ _ _ _ _ _ _ c.clear.ensures z.4 c.start_clocks.ensures z.5 c.const_new.ensures _ _ z.3)
