-- Laws on the slots of a queue: its length, and the queue without one of its slots.
use Rattle.std.specs.Prelude.{None, Some, position, remove}
use Rattle.std.specs.List.{position_or_len, copy_within}
use Prim.Native.Nat.{ℕ, suc, ◌+◌, ◌-◌, ◌<◌, ◌≤◌}
use native.Mathlib.Numerals.{add-one}
use native.Mathlib.Omega.{arith}
use mathlib.Core.Path.{◌≡◌, refl, sym, ap, ◌∙◌}
use mathlib.Core.Bool.{Bool, true, false, cond, not}
use mathlib.Core.List.{List, [], ◌∷◌, ◌++◌}
use borrow.Author.Tests.{ltb-true, ltb-false}
use lib.Dec.{ltb}
use lib.ListN.{length, take, drop, length-append, length-drop}
use lib.Seq.{length-take-le, take-take, take-append_seam}
use Rattle.std.proofs.lemmas.List.{drop-take}
use Rattle.rules.specs.declared.Slot.{Slot}
use Rattle.rules.specs.State.{same_slot}
use Rattle.rules.specs.Scan.{without}
use Rattle.queue.specs.View.{waiters_of}
use Rattle.queue.specs.declared.Waiters.{Waiters}

-- a queue that fits its array is as long as it says
pub waiters-length : (w : Waiters) → length w.slots ≡ 32 → w.len ≤ 32 → length (waiters_of w) ≡ w.len
unfolding waiters_of
waiters-length w e h = length-take-le w.len w.slots (omega arith)

-- those behind a slot moved one place to the front
pub closed_up : (q : List Slot) (i len : ℕ) → i < len → len ≤ length q → take (len - 1) (copy_within q (i + 1) len i) ≡ remove (take len q) i
closed_up q i len h k =
    ap (λ (n : ℕ). take n (kept ++ drop (i + m) q)) (sym size)
    ∙ take-append_seam kept (drop (i + m) q)
    ∙ sym (ap (λ (l : List Slot). l ++ drop (suc i) (take len q)) (take-take i len q (omega arith)) ∙ ap (λ (l : List Slot). take i q ++ l) behind)
  where
    m : ℕ
    m = len - (i + 1)

    kept : List Slot
    kept = take i q ++ take m (drop (i + 1) q)

    size : length kept ≡ len - 1
    size =
        omega (
          arith,
          length-append (take i q) (take m (drop (i + 1) q)),
          length-take-le i q (omega arith),
          length-take-le m (drop (i + 1) q) (omega (arith, length-drop (i + 1) q)),
        )

    behind : drop (suc i) (take len q) ≡ take m (drop (i + 1) q)
    behind =
        let all : suc i + m ≡ len = omega arith in
        ap (λ (n : ℕ). drop (suc i) (take n q)) (sym all) ∙ drop-take (suc i) m q ∙ ap (λ (n : ℕ). take m (drop n q)) (sym (add-one i))

-- without a slot: without the place where it first stands
removed_here : (x y : Slot) (q : List Slot) (n : ℕ) (b : Bool) → (n < length q → remove q n ≡ without x q)
    → cond (not b) (1 + n) 0 < suc (length q) → remove (y ∷ q) (cond (not b) (1 + n) 0) ≡ cond b q (y ∷ without x q)
removed_here x y q n true f h = refl
removed_here x y q n false f h = let e : 1 + n ≡ suc n = omega arith in rw e (ap (λ (l : List Slot). y ∷ l) (f (omega arith)))

first_removed : (x : Slot) (q : List Slot) → position_or_len (same_slot x) q < length q → remove q (position_or_len (same_slot x) q) ≡ without x q
unfolding without
first_removed x [] h = absurd (omega arith)
first_removed x (y ∷ q) h = removed_here x y q (position_or_len (same_slot x) q) (same_slot x y) (λ l. first_removed x q l) h

absent_here : (x y : Slot) (q : List Slot) (n : ℕ) (b : Bool) → (length q ≤ n → q ≡ without x q)
    → suc (length q) ≤ cond (not b) (1 + n) 0 → y ∷ q ≡ cond b q (y ∷ without x q)
absent_here x y q n true f h = absurd (omega arith)
absent_here x y q n false f h = ap (λ (l : List Slot). y ∷ l) (f (omega arith))

none_removed : (x : Slot) (q : List Slot) → length q ≤ position_or_len (same_slot x) q → q ≡ without x q
unfolding without
none_removed x [] h = refl
none_removed x (y ∷ q) h = absent_here x y q (position_or_len (same_slot x) q) (same_slot x y) (λ l. none_removed x q l) h

found_at : (b : Bool) (n i : ℕ) → cond b (Some n) None ≡ Some i → (b ≡ true) × (n ≡ i)
found_at true n i e = (refl, cc)
found_at false n i e = cc

none_at : (b : Bool) (n : ℕ) → cond b (Some n) None ≡ None → b ≡ false
none_at true n e = cc
none_at false n e = refl

module _ (x : Slot) (q : List Slot) where
  abbrev n : ℕ
  n = position_or_len (same_slot x) q

  pub removed : (i : ℕ) → position (same_slot x) q ≡ Some i → (i < length q) × (remove q i ≡ without x q)
  removed i e =
      let f = found_at (ltb n (length q)) n i e in
      let l : n < length q = ltb-true n (length q) f.0 in
      (omega (arith, f.1), ap (λ (k : ℕ). remove q k) (sym f.1) ∙ first_removed x q l)

  pub absent : position (same_slot x) q ≡ None → q ≡ without x q
  absent e = none_removed x q (ltb-false n (length q) (none_at (ltb n (length q)) n e))
