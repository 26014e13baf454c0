-- Takings keep a state sound, and lower the stock by their count.
use Prim.Native.Nat.{ℕ, ◌-◌, ◌≤◌}
use native.Mathlib.Omega.{arith}
use mathlib.Core.Path.{◌≡◌, refl}
use lib.ListN.{length-set}
use Rattle.rules.specs.declared.TaskId.{TaskId}
use Rattle.rules.specs.declared.Slot.{Slot}
use Rattle.rules.specs.State.{State, stock, asked_at, task_of}
use Rattle.rules.specs.Taking.{taking, take_as, take_queued}
use Rattle.rules.specs.Sound.{Sound}
use Rattle.rules.proofs.Batches.{sound-taking}
use Rattle.rules.proofs.Keeping.{sound-permits, sound-tasks}

pub sound-take : (t : TaskId) (n : ℕ) (s : State) → n ≤ stock s → Sound s → Sound (take_as t n s)
unfolding take_as
sound-take t n s l h =
    sound-tasks _ _ (length-set s.tasks t.0 _) (sound-permits _ s (sound-taking n _ s.permits l h.permits) h)

pub sound-take-queued : (x : Slot) (s : State) → asked_at x s ≤ stock s → Sound s → Sound (take_queued x s)
unfolding take_queued
sound-take-queued x s l h =
    sound-tasks _ _ (length-set s.tasks (task_of x s).0 _)
    (sound-permits _ s (sound-taking _ _ s.permits (omega arith) h.permits) h)

pub take-stock : (t : TaskId) (n : ℕ) (s : State) → stock (take_as t n s) ≡ stock s - n
unfolding take_as taking
take-stock t n s = refl
