-- Given back, and then the grants.
use native.Mathlib.Omega.{arith}
use mathlib.Core.List.{[]}
use Rattle.times.proofs.Stepping.{gave}
use Rattle.times.proofs.give_times.Goals as goal

pub apply_grants-requires : goal.apply_grants-requires
apply_grants-requires c = (
  record { places = omega (arith, c.give_back-given.auto.sizes, c.requires.0.places); entries = omega (arith, c.give_back-given.auto.rows, c.requires.0.entries) },
  (c.give_back-given.ensures [] []).formed,
  c.requires.2,
  c.requires.3,
  omega (arith, c.give_back-given.auto.clocks, c.requires.4),
  c.requires.5,
  c.requires.6,
)

pub returns : goal.returns
returns c =
    let a = c.args in
    gave _ _ _ _ _ _ _ _ _ _ _ _ _ _ (c.give_back-given.ensures a.last.now _) c.apply_grants.ensures
