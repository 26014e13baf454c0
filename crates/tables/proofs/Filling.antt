-- A loop that writes a list over, an entry a turn: after i turns the first i entries of d are those of s.
use Prim.Native.Nat.{ℕ, zero, suc, ◌+◌, ◌≤◌, ◌<◌}
use native.Mathlib.Nat.{not-suc-le-zero, le_of_suc-le-suc}
use native.Mathlib.Numerals.{add-one}
use mathlib.Core.Path.{◌≡◌, refl, ap}
use mathlib.Core.List.{List, [], ◌∷◌, ◌++◌, append-nil}
use lib.ListN.{length, get_or, set, take, drop, drop_of_length-le}
use lib.Seq.{take_all}

module _ {A : Type 0} where
  abbrev pub filled : List A → List A → ℕ → List A
  filled d s i = take i s ++ drop i d

  fills_suc : (d s : List A) (i : ℕ) (z : A) → i < length d → i < length s → set (filled d s i) i (get_or s i z) ≡ filled d s (suc i)
  fills_suc [] s i z h k = absurd (not-suc-le-zero h)
  fills_suc (x ∷ d) [] i z h k = absurd (not-suc-le-zero k)
  fills_suc (x ∷ d) (y ∷ s) zero z h k = refl
  fills_suc (x ∷ d) (y ∷ s) (suc i) z h k = ap (λ (l : List A). y ∷ l) (fills_suc d s i z (le_of_suc-le-suc h) (le_of_suc-le-suc k))

  -- a turn
  pub fills_more : (d s : List A) (i : ℕ) (z : A) → i < length d → i < length s → set (filled d s i) i (get_or s i z) ≡ filled d s (i + 1)
  fills_more d s i z h k = rw (add-one, fills_suc d s i z h k)

  -- the end
  pub fills_whole : (d s : List A) (n : ℕ) → length d ≤ n → length s ≤ n → filled d s n ≡ s
  fills_whole d s n h k = rw (take_all n s k, drop_of_length-le d h, append-nil s)
