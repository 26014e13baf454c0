-- Digits read one after the other: what one more says, and each way to stop.
use Rattle.std.specs.Prelude.{Option, None, Some}
use Prim.Native.Nat.{ℕ, suc, ◌+◌, ◌*◌, ◌-◌, ◌≤◌, ◌<◌}
use native.Mathlib.Nat.{le_trans}
use native.Mathlib.Numerals.{add-one}
use native.Mathlib.Omega.{arith}
use mathlib.Core.Path.{◌≡◌, refl, sym, ◌∙◌}
use mathlib.Core.Bool.{true, false, and-false}
use mathlib.Core.List.{List, [], ◌∷◌}
use lib.ListN.{length, get_or, drop, drop_of_length-le}
use lib.Seq.{drop-cons}
use borrow.Author.Tests.{le-leb, lt-leb, eq-eqb, ne_eqb}
use Rattle.rules.specs.Sizes.{largest}
use Rattle.rules.specs.Text.{is_digit, all_digits, no_leading_zero, value_from, number_of}
use Rattle.text.specs.Reading.{number_from}

-- reading on never makes a number smaller
value_grows : (n : ℕ) (f : List ℕ) → n ≤ value_from n f
unfolding value_from
value_grows n [] = omega arith
value_grows n (c ∷ cs) = le_trans (omega arith) (value_grows (n * 10 + (c - 48)) cs)

too_large : (n : ℕ) (f : List ℕ) → largest < value_from n f → None ≡ number_from n f
unfolding number_from
too_large n f l = rw (lt-leb (value_from n f) largest l, and-false)

-- The digit b at the place i of a field, behind digits that say n.
module _ (f : List ℕ) (n i b : ℕ) (h : i < length f) (e : b ≡ get_or f i 0) (so_far : number_from 0 f ≡ number_from n (drop i f)) where
  pub stop_other : is_digit b ≡ false → None ≡ number_from 0 f
  unfolding number_from all_digits
  stop_other d = rw (drop-cons f i 0 h, ← e, d) at (sym so_far)

  pub stop_large : largest < n * 10 + (b - 48) → None ≡ number_from 0 f
  unfolding value_from
  stop_large l =
      let v : n * 10 + (b - 48) ≤ value_from n (drop i f) = rw (drop-cons f i 0 h, ← e) (value_grows (n * 10 + (b - 48)) (drop (suc i) f)) in
      too_large n (drop i f) (omega arith) ∙ sym so_far

  pub one_more_lem : is_digit b ≡ true → number_from 0 f ≡ number_from (n * 10 + (b - 48)) (drop (i + 1) f)
  unfolding number_from all_digits value_from
  one_more_lem d = so_far ∙ rw (add-one, drop-cons f i 0 h, ← e, d)

pub all_read : (f : List ℕ) (n i : ℕ) → length f ≤ i → n ≤ largest → number_from 0 f ≡ number_from n (drop i f) → Some n ≡ number_from 0 f
unfolding number_from all_digits value_from
all_read f n i h l so_far = sym (so_far ∙ rw (drop_of_length-le f h, le-leb n largest l))

-- Leading zeros: r is what all digits say, and none stands in front where it must not.

plainly : (f : List ℕ) → no_leading_zero f ≡ true → number_from 0 f ≡ number_of f
unfolding number_from number_of
plainly f e = rw e

never : (f : List ℕ) → no_leading_zero f ≡ false → None ≡ number_of f
unfolding number_of
never f e = rw e

pub no_digit : (f : List ℕ) → length f < 1 → None ≡ number_of f
unfolding no_leading_zero
no_digit [] h = never [] refl
no_digit (c ∷ cs) h = absurd (omega arith)

pub leading_zero : (f : List ℕ) → 2 ≤ length f → get_or f 0 0 ≡ 48 → None ≡ number_of f
unfolding no_leading_zero
leading_zero [] h e = never [] refl
leading_zero (c ∷ []) h e = absurd (omega arith)
leading_zero (c ∷ d ∷ cs) h e = never (c ∷ d ∷ cs) (rw (eq-eqb c 48 e))

pub one_digit : (f : List ℕ) (r : Option ℕ) → r ≡ number_from 0 f → 1 ≤ length f → length f < 2 → r ≡ number_of f
unfolding no_leading_zero
one_digit [] r q l h = absurd (omega arith)
one_digit (c ∷ []) r q l h = q ∙ plainly (c ∷ []) refl
one_digit (c ∷ d ∷ cs) r q l h = absurd (omega arith)

pub no_zero : (f : List ℕ) (r : Option ℕ) → r ≡ number_from 0 f → 2 ≤ length f → (get_or f 0 0 ≡ 48 → ⊥) → r ≡ number_of f
unfolding no_leading_zero
no_zero [] r q h e = absurd (omega arith)
no_zero (c ∷ []) r q h e = q ∙ plainly (c ∷ []) refl
no_zero (c ∷ d ∷ cs) r q h e = q ∙ plainly (c ∷ d ∷ cs) (rw (ne_eqb c 48 e))

pub ruleset leading_zeros = (no_digit, leading_zero, one_digit, no_zero)
