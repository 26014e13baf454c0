-- A state that 14 does not refuse, as facts, in so far as they speak of the plain part: all but what batches add up to.
use Rattle.std.specs.Prelude.{◌≤◌, ◌<◌, ◌≡◌, true, false, [], length, None, Some}
use Rattle.rules.specs.declared.Slot.{Slot}
use Rattle.rules.specs.Sizes.{max_tasks, slot_count}
use Rattle.rules.specs.Broken.{member, twice}
use Rattle.splitting.specs.Plain.{Plain, strict, in_use, request_at, asked_at, least_at, task_of}

-- a queued request, or the reserved one
pub record Waits (s : Plain) (x : Slot) : Type 0 where
  pub below : x.0 < slot_count
  pub used : in_use x s ≡ true
  pub asks : 0 < asked_at x s
  pub holding : (request_at x s).holding ≡ false
  pub completed : (request_at x s).completed ≡ false
  pub task : (task_of x s).0 < length s.tasks

pub record IsReserved (s : Plain) (x : Slot) : Type 0 where
  pub waits : Waits s x
  pub unqueued : (request_at x s).queued ≡ false
  pub reserving : (request_at x s).ask.reserving ≡ true

-- a reserving request that neither 6 nor 7 refuses
pub record WellMade (s : Plain) (x : Slot) : Type 0 where
  pub unfair : strict s ≡ false
  pub asks : 0 < asked_at x s
  pub least : least_at x s ≤ asked_at x s

pub record SoundPlain (s : Plain) : Type 0 where
  pub slots : length s.slots ≡ slot_count
  pub tasks : length s.tasks ≤ max_tasks
  pub room : length s.queue ≤ slot_count
  pub once : twice s.queue ≡ false
  pub queued : (x : Slot) → member x s.queue ≡ true → Waits s x
  pub marked : (x : Slot) → (request_at x s).queued ≡ member x s.queue
  pub reserves : (x : Slot) → s.reservation ≡ Some x → IsReserved s x
  pub made : (x : Slot) → (request_at x s).ask.reserving ≡ true → WellMade s x
  pub closed : s.closed ≡ true → (s.queue ≡ []) × (s.reservation ≡ None)
