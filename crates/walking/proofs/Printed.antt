-- What the rules print, line by line, is the text of what a line came to.
use Rattle.std.specs.Prelude.{Option, None, Some}
use Prim.Native.Nat.{ℕ}
use mathlib.Core.Path.{◌≡◌, refl, ap, ◌∙◌}
use mathlib.Core.List.{List, [], ◌++◌}
use lib.ListN.{drop}
use Rattle.rules.specs.declared.Step.{Step}
use Rattle.rules.specs.State.{State}
use Rattle.rules.specs.Steps.{quiet}
use Rattle.rules.specs.Steps.Answer.{done}
use Rattle.rules.specs.Runs.{start}
use Rattle.rules.specs.Text.{bytes, lines}
use Rattle.rules.specs.Script.{end_line, outcome_text, step_of, said, Printing, printing, trace, program}
use Rattle.state.specs.View.{Words, view_of}
use Rattle.reading.specs.Starts.{BadAt}
use Rattle.walking.specs.declared.Begun.{Begun}
use Rattle.walking.specs.declared.Walked.{Walked}
use Rattle.walking.specs.Coming.{comes_to, after, text_of, came, Comes, FreshAt, RefusedAt}

pub prints : (o : Option Step) (s : State) → printing o s ≡ record { text = text_of (comes_to o s); state = after (comes_to o s) s }
prints None s = refl
prints (Some a) s = refl

-- from a line on
module _ {script : List ℕ} {at : ℕ} {s : State} {r : Walked} {w : Words} {gs : List ℕ} (c : Comes script at s r w gs) where
  line_prints : printing (said step_of c.line) s ≡ record { text = text_of (came r w gs); state = view_of r.out.state w }
  line_prints = prints (said step_of c.line) s ∙ rw (← c.comes, ← c.state)

  pub traced : trace s (lines (drop at script)) ≡ text_of (came r w gs) ++ trace (view_of r.out.state w) (lines (drop r.next script))
  unfolding trace
  traced = ap (trace s) c.shows ∙ ap (λ (p : Printing). p.text ++ trace p.state (lines (drop r.next script))) line_prints

-- from the first line on
module _ {script : List ℕ} {r : Begun} {w : Words} (f : FreshAt script r w) where
  pub fresh_prints : program (lines script) ≡ outcome_text (quiet done (view_of r.state w)) ++ trace (view_of r.state w) (lines (drop r.next script))
  unfolding program start
  fresh_prints = rw (f.shows, f.says, f.begins.accepted, ← f.begins.view)

pub refused_prints : {script : List ℕ} → RefusedAt script → program (lines script) ≡ end_line (bytes "r12")
unfolding program
refused_prints f = rw (f.shows, f.says, f.refused)

pub bad_prints : {script : List ℕ} → BadAt script → program (lines script) ≡ end_line (bytes "bad")
unfolding program
bad_prints f = rw (f.shows, f.says)

pub nothing_prints : (script : List ℕ) → lines script ≡ [] → program (lines script) ≡ []
unfolding program
nothing_prints script e = rw e
