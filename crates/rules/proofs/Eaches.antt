-- Laws on a property that each element of a list has.
use Prim.Native.Nat.{ℕ, zero, suc}
use mathlib.Core.Path.{◌≡◌}
use mathlib.Core.Bool.{true}
use mathlib.Core.List.{List, [], ◌∷◌, ◌++◌}
use lib.ListN.{get_or, set, take, drop, replicate}
use Rattle.rules.specs.declared.Slot.{Slot}
use Rattle.rules.specs.State.{same_slot}
use Rattle.rules.specs.Broken.{any_of, member}
use Rattle.rules.specs.Promises.{Each}
use Rattle.rules.proofs.Bools.{or_left, or_right}
use Rattle.rules.proofs.Queues.{same_itself}

module _ {A : Type 0} (P : A → Type 0) where
  pub each_append : (xs ys : List A) → Each P xs → Each P ys → Each P (xs ++ ys)
  each_append [] ys h k = k
  each_append (x ∷ xs) ys h k = (h.0, each_append xs ys h.1 k)

  pub each_set : (xs : List A) (i : ℕ) (x : A) → Each P xs → P x → Each P (set xs i x)
  each_set [] i x h k = tt
  each_set (y ∷ xs) zero x h k = (k, h.1)
  each_set (y ∷ xs) (suc i) x h k = (h.0, each_set xs i x h.1 k)

  pub each_at : (xs : List A) (i : ℕ) (d : A) → Each P xs → P d → P (get_or xs i d)
  each_at [] i d h k = k
  each_at (x ∷ xs) zero d h k = h.0
  each_at (x ∷ xs) (suc i) d h k = each_at xs i d h.1 k

  pub each_take : (n : ℕ) (xs : List A) → Each P xs → Each P (take n xs)
  each_take zero xs h = tt
  each_take (suc n) [] h = tt
  each_take (suc n) (x ∷ xs) h = (h.0, each_take n xs h.1)

  pub each-drop : (n : ℕ) (xs : List A) → Each P xs → Each P (drop n xs)
  each-drop zero xs h = h
  each-drop (suc n) [] h = tt
  each-drop (suc n) (x ∷ xs) h = each-drop n xs h.1

  pub each_replicate : (n : ℕ) (x : A) → P x → Each P (replicate n x)
  each_replicate zero x h = tt
  each_replicate (suc n) x h = (h, each_replicate n x h)

-- what holds of every member of a queue
pub each_member : (P : Slot → Type 0) (q : List Slot) → ((x : Slot) → member x q ≡ true → P x) → Each P q
unfolding any_of
each_member P [] h = tt
each_member P (x ∷ q) h =
    (h x (or_left (same_slot x x) (member x q) (same_itself x)), each_member P q (λ y m. h y (or_right (same_slot y x) (member y q) m)))
