-- Scripts stand where their rows say, so what is printed for a bundle is what is printed for the parts that its contents say.
use Rattle.std.specs.Prelude.{Option, None, Some}
use Prim.Native.Nat.{ℕ, ◌+◌}
use native.Mathlib.Omega.{arith}
use mathlib.Core.Path.{◌≡◌, refl, ap, sym, ◌∙◌}
use mathlib.Core.Bool.{true}
use mathlib.Core.List.{List, [], ◌∷◌, map}
use lib.ListN.{length, take, drop, length-drop}
use lib.Seq.{drop-drop, take-append_seam, drop-append_seam}
use Rattle.bundle_rules.specs.declared.Refusal.{Refusal}
use Rattle.bundle_rules.specs.Bundled.{contents_length, Entry, placed, bodies}
use Rattle.bundle_rules.specs.Reading.{count_of, contents, in_order, ground_of, holds, or_refused, entries_in, read_as}
use Rattle.bundle_rules.proofs.Placing.{ordered_placed}
use Rattle.bundle_rules.proofs.Grounds.{Clear, none_clear}
use Rattle.bundle_rules.proofs.RoundTrip.{Accepted, accepted}
use Rattle.bundle_jobs.specs.Printed.{scripts_text, run_text}
use Rattle.bundle_jobs.specs.Placing.{script_at, scripts_at}

-- each body stands where its row says
pub scripts_placed : (s : List ℕ) (at : ℕ) (es : List Entry) → drop at s ≡ bodies es → map (script_at s) (placed at es) ≡ es
unfolding placed bodies
scripts_placed s at [] h = refl
scripts_placed s at (e ∷ es) h =
    let b : take (length e.body) (drop at s) ≡ e.body = ap (take (length e.body)) h ∙ take-append_seam e.body (bodies es) in
    let r : drop (at + length e.body) s ≡ bodies es =
    sym (drop-drop (length e.body) at s) ∙ ap (drop (length e.body)) h ∙ drop-append_seam e.body (bodies es) in
    rw (b, scripts_placed s (at + length e.body) es r)

-- WHAT IS PRINTED FOR A BUNDLE: for each row of its contents the heading, and what a run prints for the part that stands where the row says.
no_ground : (o : Option Refusal) (xs es : List Entry) → or_refused o xs ≡ holds es → o ≡ None
no_ground None xs es e = refl
no_ground (Some g) xs es e = let z : ◌≡◌ {A = ℕ} 0 1 = cc in absurd (omega arith)

module _ (s : List ℕ) (es : List Entry) (e : read_as s ≡ holds es) where
  clear : Clear s (length s)
  unfolding read_as
  clear = none_clear s (length s) (no_ground (ground_of s (length s)) (entries_in s) es e)

  at-end : contents_length (count_of s) + length (drop (contents_length (count_of s)) s) ≡ length s
  at-end = rw (length-drop (contents_length (count_of s)) s) (omega (arith, clear.table))

  pub contents-placed : contents s ≡ placed (contents_length (length es)) es
  contents-placed =
      let a : Accepted s es = accepted s es e in
      let o : in_order (contents_length (count_of s)) (contents s) (contents_length (count_of s) + length (drop (contents_length (count_of s)) s)) ≡ true =
      ap (in_order (contents_length (count_of s)) (contents s)) at-end ∙ clear.ordered in
      sym (ordered_placed (contents_length (count_of s)) (contents s) (drop (contents_length (count_of s)) s) o)
      ∙ rw (← a.entries, a.count)

  pub runs_where_they_stand : run_text (read_as s) ≡ scripts_at s (contents s)
  runs_where_they_stand =
      ap run_text e
      ∙ ap scripts_text (sym (scripts_placed s (contents_length (length es)) es (accepted s es e).rest))
      ∙ ap (scripts_at s) (sym contents-placed)
