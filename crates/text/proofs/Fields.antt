-- The field at a place of a line, the number that it says, and the fields behind it.
use Prim.Native.Nat.{ℕ, ◌+◌, ◌≤◌, ◌<◌}
use native.Mathlib.Omega.{arith}
use mathlib.Core.Path.{◌≡◌, ap, sym, ◌∙◌}
use mathlib.Core.List.{List}
use lib.ListN.{length, drop}
use Rattle.rules.specs.Text.{space, before, number_of}
use Rattle.rules.proofs.Parts.{parts_onward, parts-ended}
use Rattle.std.specs.Prelude.{Option, None, Some}
use Rattle.text.specs.declared.Reading.TheVariants.{Last, Then}
use Rattle.text.specs.Reading.{ReadAt}

module _ (line f : List ℕ) (at : ℕ) (is : f ≡ before space (drop at line)) where
  ends : at + length f ≡ at + length (before space (drop at line))
  ends = ap (λ (l : List ℕ). at + length l) is

  said_here : (o : Option ℕ) → o ≡ number_of f → number_of (before space (drop at line)) ≡ o
  said_here o says = ap number_of (sym is) ∙ sym says

  pub read_none : None ≡ number_of f → ReadAt line at None
  read_none says = record { says = said_here None says; behind = tt }

  module _ (n : ℕ) (says : Some n ≡ number_of f) where
    pub read_then : at + length f < length line → ReadAt line at (Some (Then n (at + length f + 1)))
    read_then l = record { says = said_here (Some n) says; behind = (parts_onward space line at (at + length f) ends l, omega arith) }

    pub read-last : length line ≤ at + length f → ReadAt line at (Some (Last n))
    read-last l = record { says = said_here (Some n) says; behind = parts-ended space line at (at + length f) ends l }
