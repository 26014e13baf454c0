-- The loop that adds the batches up: the sum so far and the batches from here on make the whole, and those passed are not of nothing.
-- It reads no clock, so it says so whatever the clocks are.
use mir.Syntax.{w32, w64}
use mir.Val.{Fits}
use Prim.Native.Nat.{ℕ, ◌+◌, ◌*◌, ◌-◌, ◌%◌, ◌≤◌, ◌<◌}
use native.Mathlib.Nat.{add-zero, sub-zero}
use native.Mathlib.Omega.{arith}
use mathlib.Core.Path.{◌≡◌}
use mathlib.Core.Bool.{Bool, true, false, not, ◌||◌, not-not}
use mathlib.Core.List.{List, ◌∷◌}
use borrow.Author.Tests.{eq-eqb, ne_eqb}
use lib.Dec.{eqb}
use lib.ListN.{get_or}
use Rattle.rules.specs.Sizes.{batch_count, width, largest}
use Rattle.rules.specs.State.{Batch}
use Rattle.rules.specs.Broken.{any_of, is_empty_batch, total}
use Rattle.batches.specs.declared.PermitClocks.{PermitClocks}
use Rattle.batches.specs.View.{ring, ring_of, batch_at, batches_of}
use Rattle.batches.proofs.Rings.{ring_from}

-- the batches from the one numbered i on, and all of them
abbrev rest_of : PermitClocks → List ℕ → List ℕ → ℕ → List Batch
rest_of b sizes rows i = ring (batch_at width sizes rows) batch_count (b.head + i) (b.count - i)

abbrev all_of : PermitClocks → List ℕ → List ℕ → List Batch
all_of b sizes rows = batches_of (ring_of b sizes rows)

pub record Summing (b : PermitClocks) (sizes : List ℕ) (sum i : ℕ) : Type 0 where
  pub passed : i ≤ b.count
  pub small : sum ≤ i * largest
  pub adds : (rows : List ℕ) → sum + total (rest_of b sizes rows i) ≡ total (all_of b sizes rows)
  pub empties : (rows : List ℕ) → any_of is_empty_batch (rest_of b sizes rows i) ≡ any_of is_empty_batch (all_of b sizes rows)

pub wider : (n : ℕ) → Fits w32 n → Fits w64 n
wider n f = record { fits = omega (arith, f.fits) }

-- whether batches add up
abbrev adding_up : List Batch → ℕ → Bool
adding_up bs n = not (any_of is_empty_batch bs || not (eqb (total bs) n))

module _ (b : PermitClocks) (sizes : List ℕ) where
  pub sums_none : Summing b sizes 0 0
  sums_none =
      record {
        passed = omega arith;
        small = omega arith;
        adds = λ rows. rw (add-zero, sub-zero) (omega arith);
        empties = λ rows. rw (add-zero, sub-zero);
      }

  module _ (sum i : ℕ) (s : Summing b sizes sum i) where
    -- a turn at a batch that is not of nothing, and at one that is
    module _ (stands : i < b.count) where
      abbrev size : ℕ
      size = get_or sizes ((b.head + i) % batch_count) 0

      next : (rows : List ℕ) → rest_of b sizes rows i ≡ batch_at width sizes rows ((b.head + i) % batch_count) ∷ rest_of b sizes rows (i + 1)
      next rows = ring_from batch_count (batch_at width sizes rows) b.count b.head i stands

      -- 64 sizes of 32 bits do not wrap at 64
      pub sum_fits : b.count ≤ batch_count → Fits w32 size → Fits w64 (sum + size)
      sum_fits r f = record { fits = omega (arith, s.passed, s.small, f.fits) }

      pub sums_more : Fits w32 size → (size ≡ 0 → ⊥) → Summing b sizes (sum + size) (i + 1)
      unfolding total any_of
      sums_more f full =
          record {
            passed = omega arith;
            small = omega (arith, s.small, f.fits);
            adds = λ rows. let e : sum + (size + total (rest_of b sizes rows (i + 1))) ≡ total (all_of b sizes rows) = rw (next rows) at (s.adds rows) in omega arith;
            empties = λ rows. rw (next rows, ne_eqb size 0 full) at (s.empties rows);
          }

      pub finds_empty : (n : ℕ) → size ≡ 0 → (rows : List ℕ) → false ≡ adding_up (all_of b sizes rows) n
      unfolding any_of
      finds_empty n e rows =
          let t : true ≡ any_of is_empty_batch (all_of b sizes rows) = rw (next rows, eq-eqb size 0 e) at (s.empties rows) in
          rw (← t)

    pub sums_whole : (n : ℕ) → b.count ≤ i → (rows : List ℕ) → eqb sum n ≡ adding_up (all_of b sizes rows) n
    unfolding ring total any_of
    sums_whole n h rows =
        let z : b.count - i ≡ 0 = omega arith in
        let t : sum ≡ total (all_of b sizes rows) = let e : sum + 0 ≡ total (all_of b sizes rows) = rw z at (s.adds rows) in omega arith in
        let f : false ≡ any_of is_empty_batch (all_of b sizes rows) = rw z at (s.empties rows) in
        rw (← f, ← t, not-not)
