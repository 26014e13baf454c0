-- Document 01, "Steps": the queue and its scan.
use Rattle.std.specs.Prelude.{true, false, cond, List, [], ◌∷◌, ◌++◌, leb}
use Rattle.rules.specs.declared.Slot.{Slot}
use Rattle.rules.specs.declared.Grant.{Grant}
use Rattle.rules.specs.declared.Taker.TheVariants.{BySlot}
use Rattle.rules.specs.declared.Verdict.{Verdict}
use Rattle.rules.specs.declared.Verdict.TheVariants.{Leaves, Fits, Passed, Ends}
use Rattle.rules.specs.Request.{queued_as, held, is_bypassable}
use Rattle.rules.specs.State.{State, stock, same_slot, request_at, asked_at, task_of, owner_finished, with_queue, alter_request, unblock_and_wake, ◌▷◌}
use Rattle.rules.specs.Taking.{take_queued}

-- the list without the slot
unfoldable pub without : Slot → List Slot → List Slot
without x [] = []
without x (y ∷ q) = cond (same_slot x y) q (y ∷ without x q)

-- queue at the back
abbrev pub queue_back : Slot → State → State
queue_back x s = s ▷ with_queue (s.queue ++ x ∷ []) ▷ alter_request x (queued_as true)

-- queue in front
abbrev pub queue_front : Slot → State → State
queue_front x s = s ▷ with_queue (x ∷ s.queue) ▷ alter_request x (queued_as true)

-- leave the queue (if in it)
abbrev pub leave : Slot → State → State
leave x s = s ▷ with_queue (without x s.queue) ▷ alter_request x (queued_as false)

-- A request whose task is finished leaves the queue ungranted. One that fits is granted. One too large is passed if Bypassable.
-- The scan ends inside its walk, at the first request too large and not Bypassable.
unfoldable pub verdict : Slot → State → Verdict
verdict x s =
    cond (owner_finished x s) Leaves
    (cond (leb (asked_at x s) (stock s)) Fits
    (cond (is_bypassable (request_at x s).ask.kind) Passed
    Ends))

-- granted, held, out of the queue, its task unblocked and woken
unfoldable pub grant_queued : Slot → State → State
grant_queued x s = s ▷ take_queued x ▷ leave x ▷ alter_request x held ▷ unblock_and_wake (task_of x s)

-- one grant for each taking: slot, count, and the task that joined
abbrev pub queue_grant : Slot → State → Grant
queue_grant x s = record { taker = BySlot x; count = asked_at x s; task = task_of x s }

-- a state, and the grants made on the way to it, in order
pub record Granting : Type 0 where
  pub grants : List Grant
  pub state : State

-- one turn of the walk, at the slot x, after the grants gs; `on` is the rest of the walk
abbrev pub turn : Verdict → Slot → (State → List Grant → Granting) → State → List Grant → Granting
turn Leaves x on s gs = on (leave x s) gs
turn Fits x on s gs = on (grant_queued x s) (gs ++ queue_grant x s ∷ [])
turn Passed x on s gs = on s gs
turn Ends x on s gs = record { grants = gs; state = s }

unfoldable pub walk : List Slot → State → List Grant → Granting
walk [] s gs = record { grants = gs; state = s }
walk (x ∷ q) s gs = turn (verdict x s) x (λ b hs. walk q b hs) s gs

-- Scan: walk from the front.
unfoldable pub scan : State → Granting
scan s = walk s.queue s []
