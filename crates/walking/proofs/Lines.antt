-- One line: the step that was read of it was taken, or it said none.
use Rattle.std.specs.Prelude.{Option, None, Some}
use Prim.Native.Nat.{ℕ}
use native.Mathlib.Omega.{arith}
use mathlib.Core.Path.{◌≡◌, refl, ap, sym, ◌∙◌}
use mathlib.Core.Bool.{true, false}
use mathlib.Core.List.{List}
use Rattle.rules.specs.declared.Step.{Step}
use Rattle.rules.specs.State.{State}
use Rattle.rules.specs.Sound.{Sound}
use Rattle.rules.specs.Script.{step_of, said}
use Rattle.state.specs.declared.BatchSemaphore.{BatchSemaphore}
use Rattle.state.specs.declared.Stepped.{Stepped}
use Rattle.state.specs.View.{Words, view_of, Fit}
use Rattle.stepping.specs.Contract.{StepsOn}
use Rattle.stepping.proofs.Carried.{carried}
use Rattle.script.specs.Saying.{within}
use Rattle.script.proofs.Within.{step-within}
use Rattle.reading.specs.declared.ReadLine.{ReadLine}
use Rattle.reading.specs.Steps.{SaysAt}
use Rattle.walking.specs.Coming.{comes_to, Comes}

-- what was read of the line is its step, named within a byte, which comes to the same
same_step : (s : State) → Sound s → (o : Option Step) → comes_to (within o) s ≡ comes_to o s
same_step s f None = refl
same_step s f (Some a) = ap Some (step-within s f.tasks f.slots a)

module _ {script : List ℕ} {at : ℕ} {l : ReadLine} (is : SaysAt script at l) {s : BatchSemaphore} {w : Words} {gs : List ℕ} (f : Fit s w gs) where
  comes-read : (p : Option Step) → l.said ≡ p → comes_to p (view_of s w) ≡ comes_to (said step_of is.line) (view_of s w)
  comes-read p e =
      ap (λ (o : Option Step). comes_to o (view_of s w)) (sym e ∙ is.step) ∙ same_step (view_of s w) f.sound (said step_of is.line)

  pub walked_step : {a : Step} {out : Stepped} {v : Words} {hs : List ℕ} → StepsOn s w gs a out v hs → l.said ≡ Some a
      → Comes script at (view_of s w) (record { bad = false; out = out; next = l.next }) v hs
  walked_step {a} {out} {v} {hs} h e =
      record {
        line = is.line;
        shows = is.shows;
        comes = ap Some (carried s w gs a out v hs h) ∙ comes-read (Some a) e;
        state = refl;
        fit = h.fit;
        few = h.few;
        bytes = is.bytes;
        on = is.on;
        within = is.within;
      }

  pub walked_bad : {out : Stepped} → l.said ≡ None → out.state ≡ s → out.count ≡ 0 → Comes script at (view_of s w) (record { bad = true; out = out; next = l.next }) w gs
  walked_bad e q n =
      record {
        line = is.line;
        shows = is.shows;
        comes = comes-read None e;
        state = rw q;
        fit = rw q f;
        few = omega (arith, n);
        bytes = is.bytes;
        on = is.on;
        within = is.within;
      }
