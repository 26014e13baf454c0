-- When batches are broken, by what the ring and the sizes hold; and what batches that are not broken give to a caller.
use Rattle.std.specs.Prelude.{Option, None, Some}
use Rattle.std.specs.Option.{ForSome, option_map_or}
use Prim.Native.Nat.{ℕ, ◌≤◌, ◌<◌}
use mathlib.Core.Logic.{◌⊎◌, inl, inr}
use mathlib.Core.Path.{◌≡◌, refl, subst}
use mathlib.Core.Bool.{Bool, true, false, not, ◌||◌, not-not}
use mathlib.Core.List.{List}
use borrow.Author.Tests.{lt-ltb, le-ltb, le-leb, lt-leb, leb-false, ltb-false, eqb-true, not-false}
use lib.Dec.{leb, ltb, eqb}
use lib.ListN.{length}
use Rattle.rules.specs.Sizes.{batch_count}
use Rattle.rules.specs.Clock.{Clock}
use Rattle.rules.specs.State.{Batch, Permits}
use Rattle.rules.specs.Broken.{any_of, set_up_batches, is_empty_batch, total, differs}
use Rattle.rules.specs.Sound.{SoundPermits}
use Rattle.rules.proofs.Bools.{neither}
use Rattle.batches.specs.declared.PermitClocks.{PermitClocks}
use Rattle.batches.specs.declared.Batches.{Batches}
use Rattle.batches.specs.View.{ring_of, batches_of, InRange, WellFormed}
use Rattle.batches.specs.Broken.{permits_of, head_beyond, bad_batches, broken_batches}
use Rattle.batches.proofs.Rings.{ring-length}

-- the answer that the code gives, by the tests that lead to it
module _ (b : Batches) (k : ℕ) (sizes : List ℕ) where
  abbrev is_broken_lem : Bool → Type 0
  is_broken_lem r = (rows : List ℕ) (c : Clock) → r ≡ broken_batches b (permits_of k b sizes rows c)

  pub not-set_up : b.permit_clocks ≡ None → is_broken_lem false
  unfolding broken_batches any_of
  not-set_up r rows c = rw r

  module _ (q : PermitClocks) (r : b.permit_clocks ≡ Some q) where
    pub beyond : (u : Bool) → u ≡ true → (batch_count ≤ q.head) ⊎ ((q.head < batch_count) × (batch_count < q.count)) → is_broken_lem u
    unfolding broken_batches
    beyond u t (inl h) rows c = rw (t, r, le-leb batch_count q.head h)
    beyond u t (inr (h, n)) rows c = rw (t, r, lt-leb batch_count q.head h, ring-length, lt-ltb batch_count q.count n)

    pub not-adding_up : (u : Bool) → q.head < batch_count → q.count ≤ batch_count
        → ((rows : List ℕ) → let bs = batches_of (ring_of q sizes rows) in u ≡ not (any_of is_empty_batch bs || not (eqb (total bs) k)))
        → is_broken_lem (not u)
    unfolding broken_batches
    not-adding_up u h n e rows c =
        rw (e rows, not-not, r, lt-leb batch_count q.head h, ring-length, le-ltb batch_count q.count n)

-- a ring within its places has its head there
pub within_places : (b : Batches) → WellFormed b → head_beyond b ≡ false
within_places b f = by_ring b.permit_clocks f
  where
    by_ring : (o : Option PermitClocks) → ForSome o (λ (q : PermitClocks). InRange q.head q.count) → option_map_or (λ (q : PermitClocks). leb batch_count q.head) o false ≡ false
    by_ring None g = refl
    by_ring (Some q) g = lt-leb batch_count q.head (g q refl).head

-- the clauses of batches that are not bad
record Good (v : Permits) : Type 0 where
  pub few : ltb batch_count (length (set_up_batches v.batches)) ≡ false
  pub sizes : any_of is_empty_batch (set_up_batches v.batches) ≡ false
  pub sum : differs v.stock v.batches ≡ false

good : (v : Permits) → bad_batches v ≡ false → Good v
good v e =
    let s = neither _ (differs v.stock v.batches) e in
    let n = neither _ (any_of is_empty_batch (set_up_batches v.batches)) s.0 in
    record { few = n.0; sizes = n.1; sum = s.1 }

-- batches that are not bad add up
pub adds_up_sound : (v : Permits) → bad_batches v ≡ false → SoundPermits v
adds_up_sound v e bs h =
    let g = good v e in
    record {
      room = ltb-false batch_count (length bs) (subst (λ (o : Option (List Batch)). ltb batch_count (length (set_up_batches o)) ≡ false) h g.few);
      sizes = subst (λ (o : Option (List Batch)). any_of is_empty_batch (set_up_batches o) ≡ false) h g.sizes;
      sum = eqb-true (total bs) v.stock (not-false _ (subst (λ (o : Option (List Batch)). differs v.stock o ≡ false) h g.sum));
    }

-- Batches that 14 does not refuse: the ring is within its places, and they add up.
module _ (b : Batches) (k : ℕ) (sizes rows : List ℕ) (c : Clock) (sound : broken_batches b (permits_of k b sizes rows c) ≡ false) where
  parts : (head_beyond b ≡ false) × (bad_batches (permits_of k b sizes rows c) ≡ false)
  unfolding broken_batches
  parts = neither (head_beyond b) (bad_batches (permits_of k b sizes rows c)) sound

  pub unbroken-formed : WellFormed b
  unbroken-formed q r =
      record {
        head = leb-false batch_count q.head (rw r at parts.0);
        count = ltb-false batch_count q.count (rw (r, ring-length) at (good (permits_of k b sizes rows c) parts.1).few);
      }

  pub unbroken_adds_up : SoundPermits (permits_of k b sizes rows c)
  unbroken_adds_up = adds_up_sound (permits_of k b sizes rows c) parts.1
