-- The line at a place of a script: what its line feed, or the want of one, says of the script's lines.
use Prim.Native.Nat.{ℕ, ◌≤◌, ◌<◌}
use native.Mathlib.Omega.{arith}
use mathlib.Core.Path.{◌≡◌, sym, ◌∙◌}
use mathlib.Core.List.{List}
use lib.ListN.{length, take, drop, length-drop}
use lib.Seq.{take_all}
use Rattle.rules.specs.Text.{line_feed, before}
use Rattle.rules.proofs.Parts.{before-take, line-ended, line_unended, no_line}
use Rattle.text.specs.declared.NextLine.TheVariants.{Ended, Unended, End}
use Rattle.text.specs.Reading.{Found, NextIs}
use Rattle.text.proofs.Scanning.{found_part}

pub next-end : (s : List ℕ) (at : ℕ) → length s ≤ at → NextIs s at End
next-end s at h = record { shows = no_line s at h; within = h }

module _ (s : List ℕ) (at e : ℕ) (f : Found s at line_feed e) where
  pub next-ended : e < length s → NextIs s at (Ended e)
  next-ended h =
      record {
        shows = rw (found_part s at line_feed e f) (line-ended s at e f.place h);
        within = (omega (arith, f.place), h);
      }

  pub next_unended : at < length s → length s ≤ e → NextIs s at Unended
  next_unended l h =
      let all : take (length (before line_feed (drop at s))) (drop at s) ≡ drop at s =
      take_all (length (before line_feed (drop at s))) (drop at s) (rw length-drop (omega (arith, f.place))) in
      record { shows = line_unended s at e f.place l h ∙ rw (sym (before-take line_feed (drop at s)) ∙ all); within = l }
