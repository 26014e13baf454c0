-- A letter that says nothing with as many numbers.
use Rattle.std.specs.Prelude.{Option, None}
use Prim.Native.Nat.{ℕ}
use mathlib.Core.Path.{◌≡◌, refl}
use mathlib.Core.Bool.{Bool, true, false, cond, and-false}
use mathlib.Core.List.{List, [], ◌∷◌}
use borrow.Author.Tests.{ne_eqb}
use Rattle.rules.specs.declared.Act.{Act}
use Rattle.rules.specs.Text.{same}
use Rattle.rules.specs.Script.{act_of}
use Rattle.text.specs.Reading.{letter_of}
use Rattle.script.specs.Saying.{saying}

-- neither way a step
nothing : (b : Bool) → cond {A = Option Act} b None None ≡ None
nothing true = refl
nothing false = refl

unsaid : (c t : ℕ) (ns : List ℕ) → act_of (c ∷ []) ns ≡ None → None ≡ saying c (t ∷ ns)
unsaid c t ns e = rw e

module _ (c t : ℕ) where
  pub none_unsaid : (c ≡ 67 → ⊥) → (c ≡ 90 → ⊥) → (c ≡ 70 → ⊥) → None ≡ saying c (t ∷ [])
  unfolding act_of same
  none_unsaid C Z F = unsaid c t [] (rw (ne_eqb c 67 C, ne_eqb c 90 Z, ne_eqb c 70 F) (simp nothing))

  pub one_unsaid : (n : ℕ) → (c ≡ 65 → ⊥) → (c ≡ 66 → ⊥) → (c ≡ 80 → ⊥) → (c ≡ 84 → ⊥) → (c ≡ 76 → ⊥) → (c ≡ 68 → ⊥) → None ≡ saying c (t ∷ n ∷ [])
  unfolding act_of same
  one_unsaid n A B P T L D =
      unsaid c t (n ∷ [])
      (rw (ne_eqb c 65 A, ne_eqb c 66 B, ne_eqb c 80 P, ne_eqb c 84 T, ne_eqb c 76 L, ne_eqb c 68 D) (simp nothing))

  pub two_unsaid : (n m : ℕ) → (c ≡ 82 → ⊥) → (c ≡ 85 → ⊥) → (c ≡ 86 → ⊥) → None ≡ saying c (t ∷ n ∷ m ∷ [])
  unfolding act_of same
  two_unsaid n m R U W = unsaid c t (n ∷ m ∷ []) (rw (ne_eqb c 82 R, ne_eqb c 85 U, ne_eqb c 86 W) (simp nothing))

  -- no letter takes more than two numbers behind the actor
  pub more_unsaid : (n m k : ℕ) (ns : List ℕ) → None ≡ saying c (t ∷ n ∷ m ∷ k ∷ ns)
  unfolding act_of same
  more_unsaid n m k ns = unsaid c t (n ∷ m ∷ k ∷ ns) (simp nothing)

-- a field is known by its letter
pub by_letter : (f : List ℕ) (ns : List ℕ) → act_of f ns ≡ act_of (letter_of f ∷ []) ns
unfolding act_of same letter_of
by_letter [] ns = refl
by_letter (c ∷ []) ns = refl
by_letter (c ∷ d ∷ cs) ns = simp and-false
