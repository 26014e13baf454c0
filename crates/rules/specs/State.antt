-- Document 01, "State": what the semaphore is, and how its parts are read and changed.
use Rattle.std.specs.Prelude.{ℕ, Bool, true, false, cond, List, eqb, get_or, set, Option, None, Some, option_map, is_some, unwrap_or}
use Rattle.rules.specs.declared.TaskId.{TaskId}
use Rattle.rules.specs.declared.Slot.{Slot}
use Rattle.rules.specs.declared.Fairness.{Fairness}
use Rattle.rules.specs.declared.Fairness.TheVariants.{StrictlyFair, Unfair}
use Rattle.rules.specs.Clock.{Clock}
use Rattle.rules.specs.Task.{Task, no_task, is_finished, unblocked, wakened}
use Rattle.rules.specs.Request.{Request, no_request}

-- size and clock
pub record Batch : Type 0 where
  pub size : ℕ
  pub clock : Clock

-- stock, batches (not yet set up, or a queue of size and clock), last-acquire clock
pub record Permits : Type 0 where
  pub stock : ℕ
  pub batches : Option (List Batch)
  pub last : Clock

-- strictly fair or unfair, closed or not, permits, queue of slots, reservation (one slot or none); its tasks and requests
pub record State : Type 0 where
  pub fairness : Fairness
  pub closed : Bool
  pub permits : Permits
  pub queue : List Slot
  pub reservation : Option Slot
  pub tasks : List Task
  -- a request, or nothing where the slot is free
  pub slots : List (Option Request)

-- Reads.

abbrev pub is_strict : Fairness → Bool
is_strict StrictlyFair = true
is_strict Unfair = false

abbrev pub strict : State → Bool
strict s = is_strict s.fairness

abbrev pub stock : State → ℕ
stock s = s.permits.stock

abbrev pub reserved : State → Bool
reserved s = is_some s.reservation

abbrev pub same_slot : Slot → Slot → Bool
same_slot x y = eqb x.0 y.0

abbrev pub is_the : Slot → Option Slot → Bool
is_the x None = false
is_the x (Some y) = same_slot x y

-- whether the slot has the reservation
abbrev pub has_reservation : Slot → State → Bool
has_reservation x s = is_the x s.reservation

-- Available: 0 while reserved, else the stock
abbrev pub available : State → ℕ
available s = cond (reserved s) 0 (stock s)

abbrev pub task_at : TaskId → State → Task
task_at t s = get_or s.tasks t.0 no_task

-- whether a slot is in use: neither above 31 nor free
abbrev pub in_use : Slot → State → Bool
in_use x s = is_some (get_or s.slots x.0 None)

abbrev pub request_at : Slot → State → Request
request_at x s = unwrap_or (get_or s.slots x.0 None) no_request

abbrev pub asked_at : Slot → State → ℕ
asked_at x s = (request_at x s).ask.asked

abbrev pub least_at : Slot → State → ℕ
least_at x s = (request_at x s).ask.least

-- the task of a request
abbrev pub task_of : Slot → State → TaskId
task_of x s = (request_at x s).task

-- whether the task of a request is finished
abbrev pub owner_finished : Slot → State → Bool
owner_finished x s = is_finished (task_at (task_of x s) s).state

-- The state with one part changed.

abbrev pub close : State → State
close s = record { fairness = s.fairness; closed = true; permits = s.permits; queue = s.queue; reservation = s.reservation; tasks = s.tasks; slots = s.slots }

abbrev pub with_permits : Permits → State → State
with_permits p s = record { fairness = s.fairness; closed = s.closed; permits = p; queue = s.queue; reservation = s.reservation; tasks = s.tasks; slots = s.slots }

abbrev pub with_queue : List Slot → State → State
with_queue q s = record { fairness = s.fairness; closed = s.closed; permits = s.permits; queue = q; reservation = s.reservation; tasks = s.tasks; slots = s.slots }

abbrev pub with_reservation : Option Slot → State → State
with_reservation v s = record { fairness = s.fairness; closed = s.closed; permits = s.permits; queue = s.queue; reservation = v; tasks = s.tasks; slots = s.slots }

abbrev pub with_tasks : List Task → State → State
with_tasks ts s = record { fairness = s.fairness; closed = s.closed; permits = s.permits; queue = s.queue; reservation = s.reservation; tasks = ts; slots = s.slots }

abbrev pub with_slots : List (Option Request) → State → State
with_slots rs s = record { fairness = s.fairness; closed = s.closed; permits = s.permits; queue = s.queue; reservation = s.reservation; tasks = s.tasks; slots = rs }

abbrev pub alter_task : TaskId → (Task → Task) → State → State
alter_task t f s = with_tasks (set s.tasks t.0 (f (task_at t s))) s

abbrev pub alter_request : Slot → (Request → Request) → State → State
alter_request x f s = with_slots (set s.slots x.0 (option_map f (get_or s.slots x.0 None))) s

-- the task is unblocked and woken
abbrev pub unblock_and_wake : TaskId → State → State
unblock_and_wake t s = alter_task t (λ a. wakened (unblocked a)) s

-- one change after another, in the order in which document 01 tells them
infixl 10 ◌▷◌
abbrev pub ◌▷◌ : State → (State → State) → State
s ▷ f = f s
