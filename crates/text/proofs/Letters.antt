-- A letter is the byte of a field of one byte.
use Prim.Native.Nat.{ℕ}
use mathlib.Core.Path.{◌≡◌, refl}
use mathlib.Core.List.{List, [], ◌∷◌}
use native.Mathlib.Omega.{arith}
use lib.ListN.{length, get_or}
use Rattle.text.specs.Reading.{letter_of}

pub letter_one : (f : List ℕ) → length f ≡ 1 → get_or f 0 0 ≡ letter_of f
unfolding letter_of
letter_one [] h = refl
letter_one (c ∷ []) h = refl
letter_one (c ∷ d ∷ cs) h = absurd (omega arith)

pub letter_none : (f : List ℕ) → (length f ≡ 1 → ⊥) → 0 ≡ letter_of f
unfolding letter_of
letter_none [] h = refl
letter_none (c ∷ []) h = absurd (h refl)
letter_none (c ∷ d ∷ cs) h = refl

pub ruleset letters = (letter_one, letter_none)
