-- The first batch: none of a stock of 0.
use Prim.Native.Nat.{ℕ, zero, suc}
use native.Mathlib.Omega.{arith}
use mathlib.Core.Path.{◌≡◌, refl}
use mathlib.Core.List.{[], ◌∷◌, ◌++◌}
use Rattle.rules.specs.Clock.{Clock}
use Rattle.rules.specs.Fresh.{first_batch}
use Rattle.batches.specs.View.{Ring, ring, batches_of, Holds}

pub first-none : (n : ℕ) (c : Clock) → n ≡ 0 → [] ≡ first_batch n c
unfolding first_batch
first-none zero c e = refl
first-none (suc n) c e = absurd (omega arith)

-- pushed into a ring that holds none
pub first_pushed : (b r : Ring) (n : ℕ) (c : Clock) → b.count ≡ 0 → (n ≡ 0 → ⊥) → Holds r (batches_of b ++ record { size = n; clock = c } ∷ []) → Holds r (first_batch n c)
unfolding first_batch ring
first_pushed b r zero c z h p = absurd (h refl)
first_pushed b r (suc n) c z h p = rw z at p
