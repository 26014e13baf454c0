-- What a letter says with the numbers of a line, from one number to the next.
use Rattle.std.specs.Prelude.{Option, None, Some}
use Prim.Native.Nat.{ℕ, ◌+◌, ◌≤◌, ◌<◌}
use native.Mathlib.Omega.{arith}
use mathlib.Core.Path.{◌≡◌, refl, ap, sym, subst, ◌∙◌}
use mathlib.Core.List.{List, [], ◌∷◌, ◌++◌}
use lib.ListN.{length, drop}
use lib.Seq.{append_snoc}
use Rattle.rules.specs.declared.Step.{Step}
use Rattle.rules.specs.Text.{space, fields, parts, before, number_of}
use Rattle.rules.specs.Script.{◌>>=◌, numbers_of, step_with, step_by, step_of}
use Rattle.rules.proofs.Parts.{parts_front, parts_onward, parts-ended}
use Rattle.text.specs.declared.Reading.{Reading}
use Rattle.text.specs.declared.Reading.TheVariants.{Last, Then}
use Rattle.text.specs.Reading.{letter_of, Behind, ReadAt}
use Rattle.script.specs.Saying.{within, saying, saying_on}
use Rattle.script.proofs.Letters.{more_unsaid, by_letter}

-- the numbers of a line's fields that begin with what was read
numbers_from : List ℕ → Reading → Option (List ℕ)
numbers_from line (Last n) = Some (n ∷ [])
numbers_from line (Then n next) = numbers_of (fields (drop next line)) >>= λ ns. Some (n ∷ ns)

numbers-read : (line : List ℕ) (at : ℕ) (r : Reading) → ReadAt line at (Some r) → numbers_of (fields (drop at line)) ≡ numbers_from line r
unfolding numbers_of numbers_from
numbers-read line at (Last n) read = rw (read.behind, read.says)
numbers-read line at (Then n next) read = rw (read.behind.0, read.says)

none_read : (line : List ℕ) (at : ℕ) → ReadAt line at None → numbers_of (fields (drop at line)) ≡ None
unfolding numbers_of
none_read line at read = rw (parts_front space (drop at line), read.says)

-- the place of the next field
pub next-within : (line : List ℕ) (at : ℕ) (r : Reading) (m next : ℕ) → ReadAt line at (Some r) → r ≡ Then m next → next ≤ length line
next-within line at r m next read e = (subst (λ (x : Reading). Behind line at (Some x)) e read.behind).1

pub said_none : (c : ℕ) (ns line : List ℕ) (at : ℕ) → ReadAt line at None → None ≡ saying_on c ns line at
said_none c ns line at read = rw (none_read line at read)

module _ (c : ℕ) (ns line : List ℕ) (at : ℕ) (r : Reading) (read : ReadAt line at (Some r)) where
  so : (q : Reading) → r ≡ q → saying_on c ns line at ≡ within (numbers_from line q >>= λ ms. step_with (c ∷ []) (ns ++ ms))
  so q e = rw (numbers-read line at q (subst (λ (x : Reading). ReadAt line at (Some x)) e read))

  pub said-last : (m : ℕ) (o : Option Step) → r ≡ Last m → o ≡ saying c (ns ++ m ∷ []) → o ≡ saying_on c ns line at
  unfolding numbers_from
  said-last m o e q = q ∙ sym (so (Last m) e)

  pub said_then : (m next : ℕ) (o : Option Step) → r ≡ Then m next → o ≡ saying_on c (ns ++ m ∷ []) line next → o ≡ saying_on c ns line at
  unfolding numbers_from
  said_then m next o e q = q ∙ regroup (numbers_of (fields (drop next line))) ∙ sym (so (Then m next) e)
    where
      regroup : (k : Option (List ℕ)) → within (k >>= λ ms. step_with (c ∷ []) (ns ++ m ∷ [] ++ ms)) ≡ within ((k >>= λ ms. Some (m ∷ ms)) >>= λ ms. step_with (c ∷ []) (ns ++ ms))
      regroup None = refl
      regroup (Some ms) = rw (append_snoc ns m ms)

-- a line has fields from any place on, so that a fourth number is read, or none at all
module _ (c t n m : ℕ) (line : List ℕ) (next : ℕ) where
  by_fields : (o : Option ℕ) (p : Option (List ℕ)) → None ≡ within ((o >>= λ k. p >>= λ ks. Some (k ∷ ks)) >>= λ ms. step_with (c ∷ []) (t ∷ n ∷ m ∷ ms))
  by_fields None p = refl
  by_fields (Some k) None = refl
  by_fields (Some k) (Some ks) = more_unsaid c t n m k ks

  too_many_lem : None ≡ saying_on c (t ∷ n ∷ m ∷ []) line next
  unfolding numbers_of
  too_many_lem = rw (parts_front space (drop next line)) (by_fields (number_of (before space (drop next line))) (numbers_of (drop 1 (parts space (drop next line)))))

pub said_too_much : (c t n m next : ℕ) (line : List ℕ) (at : ℕ) (r : Reading) → ReadAt line at (Some r) → r ≡ Then m next → None ≡ saying_on c (t ∷ n ∷ []) line at
said_too_much c t n m next line at r read e = said_then c (t ∷ n ∷ []) line at r read m next None e (too_many_lem c t n m line next)

-- The letter of a line.
module _ (line f : List ℕ) (is : f ≡ before space (drop 0 line)) where
  starts : length f ≡ 0 + length (before space (drop 0 line))
  starts = ap length is ∙ omega arith

  pub step-alone : length line ≤ length f → None ≡ within (step_of line)
  unfolding step_by numbers_of
  step-alone h = rw (parts-ended space line 0 (length f) starts h)

  pub step-on : (letter : ℕ) (o : Option Step) → letter ≡ letter_of f → length f < length line → o ≡ saying_on letter [] line (length f + 1) → o ≡ within (step_of line)
  unfolding step_by
  step-on letter o l h q = q ∙ rw (parts_onward space line 0 (length f) starts h, ← is, l) (lettered (numbers_of (fields (drop (length f + 1) line))))
    where
      lettered : (k : Option (List ℕ)) → within (k >>= λ ms. step_with (letter_of f ∷ []) ms) ≡ within (k >>= step_with f)
      lettered None = refl
      lettered (Some []) = refl
      lettered (Some (t ∷ ns)) = rw (by_letter f ns)
