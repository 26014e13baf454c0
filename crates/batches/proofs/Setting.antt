-- Batches that are set up: what stands, room for one more, and the ring after a meal.
use Rattle.std.specs.Prelude.{Option, None, Some}
use Rattle.std.proofs.lemmas.Option.{same_Some}
use Prim.Native.Nat.{ℕ, ◌<◌}
use mathlib.Core.Path.{◌≡◌, sym, ap, ◌∙◌}
use mathlib.Core.Bool.{Bool, false}
use mathlib.Core.List.{List, [], ◌∷◌, ◌++◌}
use lib.Dec.{leb}
use lib.ListN.{length}
use Rattle.rules.specs.Sizes.{batch_count, width}
use Rattle.rules.specs.Clock.{empty}
use Rattle.rules.specs.State.{Batch}
use Rattle.rules.specs.Fresh.{first_batch}
use Rattle.rules.specs.Taking.{eat, standing_of}
use Rattle.rules.specs.Refusals.{full}
use Rattle.rules.proofs.Batches.{standing-room}
use Rattle.clock.specs.declared.VectorClock.{VectorClock}
use Rattle.batches.specs.declared.Batches.{Batches}
use Rattle.batches.specs.declared.PermitClocks.{PermitClocks}
use Rattle.batches.specs.View.{Ring, ring_of, batches_of, stands_in, WellFormed, Holds, Ate, Stood, Fed}
use Rattle.batches.proofs.Rings.{ring-length}

module _ (b : Batches) (k : ℕ) (sizes rows : List ℕ) where
  -- setting up changes nothing where it was done, and else makes the first batch
  pub set_already : (q : PermitClocks) → WellFormed b → b.permit_clocks ≡ Some q → Holds (ring_of q sizes rows) (standing_of k (stands_in b sizes rows))
  unfolding standing_of
  set_already q f e = record { range = f q e; view = rw e }

  pub set_now : (r : Ring) (c : VectorClock) → b.permit_clocks ≡ None → c.0 ≡ empty width → Holds r (first_batch k c.0) → Holds r (standing_of k (stands_in b sizes rows))
  unfolding standing_of
  set_now r c n e h = rw (n, ← e) h

module _ (b : Batches) (sizes rows : List ℕ) where
  -- whether there is none
  pub full-ready : (q : PermitClocks) (r : Bool) → b.permit_clocks ≡ Some q → r ≡ leb batch_count q.count → r ≡ full (stands_in b sizes rows)
  full-ready q r e h = h ∙ sym (rw (e, ring-length))

module _ (q : PermitClocks) (sizes rows : List ℕ) where
  -- a ring that is set up stands
  pub stood : (bs : List Batch) → Holds (ring_of q sizes rows) bs → Stood (record { permit_clocks = Some q }) sizes rows bs
  stood bs h = record { formed = λ x e. rw (← same_Some q x e) h.range; view = ap Some h.view }

  -- room for a batch more
  pub room : (n : ℕ) (o : Option (List Batch)) → Holds (ring_of q sizes rows) (standing_of n o) → full o ≡ false → q.count < batch_count
  room n o h f =
      let e : q.count ≡ length (standing_of n o) = rw (← h.view, ring-length) in
      rw e (standing-room n o f)

module _ (b : PermitClocks) (sizes rows : List ℕ) (bs : List Batch) (h : Holds (ring_of b sizes rows) bs) where
  -- a meal from what stands
  pub fed : (n : ℕ) (q : PermitClocks) (after : List ℕ) (k : VectorClock) → Ate (ring_of q after rows) k (eat (batches_of (ring_of b sizes rows)) n (empty width))
      → Fed (record { batches = record { permit_clocks = Some q }; clock = k }) after rows (eat bs n (empty width))
  fed n q after k a = rw (← h.view) (record { stood = stood q after rows _ a.holds; clock = a.clock })

  pub added : (e : Batch) (q : PermitClocks) (after after' : List ℕ) → Holds (ring_of q after after') (batches_of (ring_of b sizes rows) ++ e ∷ [])
      → Stood (record { permit_clocks = Some q }) after after' (bs ++ e ∷ [])
  added e q after after' s = rw (← h.view) (stood q after after' _ s)
