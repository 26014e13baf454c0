-- Marking the slots that a queue names, one after another.
use Prim.Native.Nat.{ℕ, ◌+◌, ◌<◌, ◌≤◌}
use native.Mathlib.Numerals.{add-one}
use mathlib.Core.Path.{◌≡◌, refl, sym, ◌∙◌}
use mathlib.Core.Bool.{Bool, true, false, ◌||◌}
use mathlib.Core.List.{List, [], ◌∷◌}
use borrow.Author.Tests.{eqb-true, eqb-false}
use lib.Dec.{eqb}
use lib.ListN.{length, get_or, set, take}
use lib.Seq.{take-suc, get_or-set_same, get_or-set_other}
use Rattle.std.proofs.lemmas.List.{take_all}
use Rattle.rules.specs.declared.Slot.{Slot}
use Rattle.rules.specs.State.{same_slot}
use Rattle.rules.specs.Broken.{any_of, member}
use Rattle.rules.proofs.Bools.{or_right}
use Rattle.rules.proofs.Queues.{any_append}
use Rattle.queue.specs.declared.Waiters.{Waiters}
use Rattle.queue.specs.View.{waiters_of}
use Rattle.broken.specs.Weights.{Marks}

or-false : (a : Bool) → a || false ≡ a
or-false true = refl
or-false false = refl

pub marks_start : (seen : List Bool) (l : List Slot) → ((k : ℕ) → get_or seen k false ≡ false) → Marks seen (take 0 l)
unfolding any_of
marks_start seen l h k b = h k

pub marks_more : (seen : List Bool) (l : List Slot) (i : ℕ) (d : Slot) → i < length l → (get_or l i d).0 < length seen → Marks seen (take i l)
    → Marks (set seen (get_or l i d).0 true) (take (i + 1) l)
unfolding any_of
marks_more seen l i d h fits m k b =
    rw (add-one, take-suc l i d h, any_append (same_slot (record { 0 = k })) (take i l) (get_or l i d ∷ [])) (go (eqb k (get_or l i d).0) refl)
  where
    x : Slot
    x = get_or l i d

    go : (c : Bool) → eqb k x.0 ≡ c → get_or (set seen x.0 true) k false ≡ member (record { 0 = k }) (take i l) || (c || false)
    go true e =
        let f : k ≡ x.0 = eqb-true k x.0 e in
        rw (f, get_or-set_same seen x.0 true false fits) (sym (or_right (member (record { 0 = x.0 }) (take i l)) true refl))
    go false e = get_or-set_other seen x.0 k true false (eqb-false k x.0 e) ∙ m k b ∙ sym (or-false (member (record { 0 = k }) (take i l)))

pub marks_done : (seen : List Bool) (w : Waiters) (i : ℕ) → length (take w.len w.slots) ≤ i → Marks seen (take i (take w.len w.slots)) → Marks seen (waiters_of w)
unfolding waiters_of
marks_done seen w i h m k l = let e = take_all i (take w.len w.slots) h in rw (← e) (m k l)
