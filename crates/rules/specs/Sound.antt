-- A state that 14 does not refuse, as facts: what the steps may count on, and what each of them keeps.
use Rattle.std.specs.Prelude.{ℕ, ◌≤◌, ◌<◌, ◌≡◌, true, false, List, [], length, None, Some}
use Rattle.rules.specs.declared.Slot.{Slot}
use Rattle.rules.specs.Sizes.{max_tasks, slot_count, batch_count}
use Rattle.rules.specs.State.{Batch, Permits, State, strict, in_use, request_at, asked_at, least_at, task_of}
use Rattle.rules.specs.Broken.{any_of, member, twice, is_empty_batch, total}

-- a queued request, or the reserved one
pub record Waits (s : State) (x : Slot) : Type 0 where
  pub below : x.0 < slot_count
  pub used : in_use x s ≡ true
  pub asks : 0 < asked_at x s
  pub holding : (request_at x s).holding ≡ false
  pub completed : (request_at x s).completed ≡ false
  pub task : (task_of x s).0 < length s.tasks

pub record IsReserved (s : State) (x : Slot) : Type 0 where
  pub waits : Waits s x
  pub unqueued : (request_at x s).queued ≡ false
  pub reserving : (request_at x s).ask.reserving ≡ true

-- a reserving request that neither 6 nor 7 refuses
pub record WellMade (s : State) (x : Slot) : Type 0 where
  pub unfair : strict s ≡ false
  pub asks : 0 < asked_at x s
  pub least : least_at x s ≤ asked_at x s

pub record AddUp (bs : List Batch) (n : ℕ) : Type 0 where
  pub room : length bs ≤ batch_count
  pub sizes : any_of is_empty_batch bs ≡ false
  pub sum : total bs ≡ n

abbrev pub SoundPermits : Permits → Type 0
SoundPermits p = (bs : List Batch) → p.batches ≡ Some bs → AddUp bs p.stock

pub record Sound (s : State) : Type 0 where
  pub slots : length s.slots ≡ slot_count
  pub tasks : length s.tasks ≤ max_tasks
  pub room : length s.queue ≤ slot_count
  pub once : twice s.queue ≡ false
  pub queued : (x : Slot) → member x s.queue ≡ true → Waits s x
  pub marked : (x : Slot) → (request_at x s).queued ≡ member x s.queue
  pub reserves : (x : Slot) → s.reservation ≡ Some x → IsReserved s x
  pub made : (x : Slot) → (request_at x s).ask.reserving ≡ true → WellMade s x
  pub closed : s.closed ≡ true → (s.queue ≡ []) × (s.reservation ≡ None)
  pub permits : SoundPermits s.permits
