-- The source's key invariants (2) to (6) hold of every sound state: so of what is handed in and not broken, and of every state that a run from an
-- accepted fresh state reaches.
use mathlib.Core.Path.{◌≡◌, sym, ◌∙◌}
use mathlib.Core.Bool.{false}
use mathlib.Core.List.{List}
use Prim.Native.Nat.{ℕ}
use Rattle.rules.specs.declared.Step.{Step}
use Rattle.rules.specs.State.{State}
use Rattle.rules.specs.Sound.{Sound}
use Rattle.rules.specs.Fresh.{Start, fresh, refuses12}
use Rattle.rules.specs.Runs.{run}
use Rattle.rules.proofs.KeepsSteps.{sound-fresh, sound-run}
use Rattle.state.specs.declared.BatchSemaphore.{BatchSemaphore}
use Rattle.state.specs.View.{Words, view_of}
use Rattle.broken.specs.Broken.{is_broken}
use Rattle.broken.specs.KeyInvariants.{KeyInvariants}
use Rattle.broken.proofs.Unbroken.{unbroken-fit}

pub sound_keys : (s : State) → Sound s → KeyInvariants s
sound_keys s h =
    record {
      queued = λ x. sym (h.marked x);
      lacks = λ x q. (h.queued x (sym (h.marked x) ∙ q)).holding;
      closed-empty = λ c. (h.closed c).0;
      reserved =
          λ x r.
          let v = h.reserves x r in
          record { unfair = (h.made x v.reserving).unfair; unqueued = v.unqueued; lacks = v.waits.holding };
      closed_unreserved = λ c. (h.closed c).1;
    }

pub unbroken_keys : (s : BatchSemaphore) (w : Words) (gs : List ℕ) → is_broken s w gs ≡ false → KeyInvariants (view_of s w)
unbroken_keys s w gs e = sound_keys (view_of s w) (unbroken-fit s w gs e).sound

pub run_keys : (a : Start) → refuses12 a ≡ false → (steps : List Step) → KeyInvariants (run steps (fresh a)).state
run_keys a e steps = sound_keys (run steps (fresh a)).state (sound-run steps (fresh a) (sound-fresh a e))
