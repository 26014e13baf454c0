-- Document 01, "Steps": waking the unfair, and reblocking.
use Rattle.std.specs.Prelude.{Bool, cond, not, ◌&&◌, ◌||◌, List, [], ◌∷◌, leb, ltb, eqb, Option, None, Some}
use Rattle.rules.specs.declared.TaskId.{TaskId}
use Rattle.rules.specs.declared.Slot.{Slot}
use Rattle.rules.specs.Task.{blocked}
use Rattle.rules.specs.State.{State, strict, stock, reserved, asked_at, least_at, task_of, owner_finished, with_reservation, alter_task, unblock_and_wake}

abbrev pub cleared_if : Option Slot → State → State
cleared_if None s = s
cleared_if (Some x) s = cond (owner_finished x s) (with_reservation None s) s

-- a reservation whose task is finished is cleared
abbrev pub clear_finished : State → State
clear_finished s = cleared_if s.reservation s

-- every queued request whose least fits has its task, if unfinished, unblocked and woken
unfoldable pub wake_each : List Slot → State → State
wake_each [] s = s
wake_each (x ∷ q) s =
    wake_each q (cond (leb (least_at x s) (stock s) && not (owner_finished x s)) (unblock_and_wake (task_of x s) s) s)

-- If a reservation still stands, unblock and wake its task if its ask fits; stop either way. Else wake the queue.
abbrev pub wake_by : Option Slot → State → State
wake_by (Some x) s = cond (leb (asked_at x s) (stock s)) (unblock_and_wake (task_of x s) s) s
wake_by None s = wake_each s.queue s

unfoldable pub wake_unfair : State → State
wake_unfair s = let a = clear_finished s in wake_by a.reservation a

-- cannot progress: reservation standing, or least above stock
abbrev pub cannot_progress : Slot → State → Bool
cannot_progress x s = reserved s || ltb (stock s) (least_at x s)

-- each queued request that cannot progress has its task Blocked, unless finished or the actor
unfoldable pub reblock_each : TaskId → List Slot → State → State
reblock_each t [] s = s
reblock_each t (x ∷ q) s =
    reblock_each t q
    (cond (cannot_progress x s && not (owner_finished x s) && not (eqb (task_of x s).0 t.0))
    (alter_task (task_of x s) blocked s) s)

-- Reblock (unfair only)
unfoldable pub reblock : TaskId → State → State
reblock t s = cond (strict s) s (reblock_each t s.queue s)
