-- A line that is found and not ended: it says nothing, and is the last.
use Prim.Native.Nat.{ℕ, ◌-◌, ◌<◌}
use native.Mathlib.Omega.{arith}
use mathlib.Core.Path.{◌≡◌, refl, ap, sym, subst, ◌∙◌}
use mathlib.Core.Bool.{false}
use mathlib.Core.List.{List, ◌∷◌}
use lib.ListN.{length, drop, length-drop}
use Rattle.rules.specs.Text.{Line}
use Rattle.rules.proofs.Parts.{no_line}
use Rattle.text.specs.Reading.{Within, NextIs}
use Rattle.text.specs.declared.NextLine.{NextLine}
use Rattle.text.specs.declared.NextLine.TheVariants.{Unended}
use Rattle.std.specs.Prelude.{None}
use Rattle.reading.specs.declared.ReadLine.{ReadLine}
use Rattle.reading.specs.Steps.{SaysAt}

module _ (script : List ℕ) (at : ℕ) (l : NextLine) (is : NextIs script at l) where
  pub says_unended : (r : ReadLine) → l ≡ Unended → r ≡ record { said = None; next = length script } → SaysAt script at r
  says_unended r q e =
      let before : at < length script = subst (λ (x : NextLine). Within script at x) q is.within in
      let n : length (drop at script) ≡ length script - at = length-drop at script in
      rw e
      (record {
        line = record { content = drop at script; ended = false };
        shows = (rw q at is).shows ∙ ap (λ (ls : List Line). record { content = drop at script; ended = false } ∷ ls) (sym (no_line script (length script) (omega arith)));
        step = refl;
        bytes = omega arith;
        on = before;
        within = omega arith;
      })
