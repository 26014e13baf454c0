-- Document 01, "Steps": each step's effect where it is not refused.
use Rattle.std.specs.Prelude.{ℕ, suc, ◌-◌, Bool, true, false, cond, not, ◌&&◌, ◌||◌, List, [], ◌∷◌, eqb, set, Option, None, Some}
use Rattle.rules.specs.declared.TaskId.{TaskId}
use Rattle.rules.specs.declared.Slot.{Slot}
use Rattle.rules.specs.declared.Ask.{Ask}
use Rattle.rules.specs.declared.Grant.{Grant}
use Rattle.rules.specs.declared.Taker.TheVariants.{ByTry}
use Rattle.rules.specs.declared.Priority.TheVariants.{Back, Bypassable, Front}
use Rattle.rules.specs.declared.Direct.{Direct}
use Rattle.rules.specs.declared.Direct.TheVariants.{Shut, NoPermits, Take}
use Rattle.rules.specs.declared.Polled.{Polled}
use Rattle.rules.specs.declared.Polled.TheVariants.{Granted, Closed, Pending}
use Rattle.rules.specs.declared.Dropping.{Dropping}
use Rattle.rules.specs.declared.Dropping.TheVariants.{Leaving, Unreserving, Returning, Nothing}
use Rattle.rules.specs.declared.Act.{Act}
use Rattle.rules.specs.declared.Act.TheVariants.{Acquire, AcquireBypassable, AcquireReserving, Upgrade, Poll, Try, TryUpgrade, Release, Drop, Close, Sleep, Finish}
use Rattle.rules.specs.declared.Step.{Step}
use Rattle.rules.specs.Task.{ticked, joined, slept, finished}
use Rattle.rules.specs.Request.{Request, plain_ask, reserving_ask, unpolled, is_bypassable}
use Rattle.rules.specs.State.{State, strict, same_slot, has_reservation, task_at, request_at, asked_at, task_of, owner_finished, close, with_permits, with_reservation, with_slots, alter_task, alter_request, unblock_and_wake, ◌▷◌}
use Rattle.rules.specs.Taking.{take_as, adding, direct}
use Rattle.rules.specs.Scan.{Granting, leave, scan}
use Rattle.rules.specs.Waking.{wake_unfair, reblock}
use Rattle.rules.specs.Polling.{polling, poll_work, poll_grants, poll_mark, polled}

-- What a step answers, in document 01's words: a word, a slot, or a refusal's number.
pub data Answer : Type 0 where
  done granted pending closed none_left : Answer
  made : Slot → Answer
  refused : ℕ → Answer

-- Each step names an acting task.
infix 70 ◌does◌
abbrev pub ◌does◌ : TaskId → Act → Step
t does a = record { actor = t; act = a }

-- A release or a drop may bring permits back, and may scan; no other act does.
pub data Sort : Type 0 where
  a_release : ℕ → Sort
  a_drop : Slot → Sort
  another : Sort

abbrev pub sort_of : Act → Sort
sort_of (Acquire n) = another
sort_of (AcquireBypassable n) = another
sort_of (AcquireReserving least n) = another
sort_of (Upgrade held wanted) = another
sort_of (Poll x) = another
sort_of (Try n) = another
sort_of (TryUpgrade held wanted) = another
sort_of (Release n) = a_release n
sort_of (Drop x) = a_drop x
sort_of Close = another
sort_of Sleep = another
sort_of Finish = another

-- what is said of a release, of a drop, and of any other act
abbrev pub by_sort {ℓ} : {A : Type ℓ} → Sort → (ℕ → A) → (Slot → A) → A → A
by_sort (a_release n) f g o = f n
by_sort (a_drop x) f g o = g x
by_sort another f g o = o

-- Every accepted step also returns its grants in order.
pub record Outcome : Type 0 where
  pub answer : Answer
  pub grants : List Grant
  pub state : State

abbrev pub quiet : Answer → State → Outcome
quiet a s = record { answer = a; grants = []; state = s }

abbrev pub doing : Granting → Outcome
doing g = record { answer = done; grants = g.grants; state = g.state }

abbrev pub ungranted : State → Granting
ungranted s = record { grants = []; state = s }

-- Make.

-- the lowest free slot (as many as there are, where none is free)
unfoldable pub lowest_free : List (Option Request) → ℕ
lowest_free [] = 0
lowest_free (None ∷ rs) = 0
lowest_free (Some r ∷ rs) = suc (lowest_free rs)

-- fills a slot with an unpolled request and changes nothing else
unfoldable pub make : TaskId → Ask → State → Outcome
make t a s =
    let i = lowest_free s.slots in
    quiet (made (record { 0 = i })) (with_slots (set s.slots i (Some (unpolled a t (task_at t s).clock))) s)

-- An upgrade asks for the difference: Front if strictly fair, else reserving with least 0.
abbrev pub upgrade_ask : Bool → ℕ → Ask
upgrade_ask true n = plain_ask Front n
upgrade_ask false n = reserving_ask 0 n

-- Try, try-upgrade.

-- On Closed or NoPermits the actor ticks and joins last-acquire.
abbrev pub fail_try : TaskId → State → State
fail_try t s = alter_task t (λ a. joined s.permits.last (ticked t a)) s

-- On success, reblock.
unfoldable pub try_by : Direct → TaskId → ℕ → State → Outcome
try_by Shut t n s = quiet closed (fail_try t s)
try_by NoPermits t n s = quiet none_left (fail_try t s)
try_by Take t n s = record { answer = granted; grants = record { taker = ByTry; count = n; task = t } ∷ []; state = s ▷ take_as t n ▷ reblock t }

-- Poll.

abbrev pub poll_answer : Polled → Answer
poll_answer Granted = granted
poll_answer Closed = closed
poll_answer Pending = pending

unfoldable pub poll : TaskId → Slot → State → Outcome
poll t x s =
    let p = polling x s in
    record { answer = poll_answer (polled p); grants = poll_grants p t x s; state = s ▷ poll_work p t x ▷ alter_request x (poll_mark (polled p) t) }

-- Release n.

-- scan if strictly fair, else wake the unfair
abbrev pub scan_or_wake : State → Granting
scan_or_wake s = cond (strict s) (scan s) (ungranted (wake_unfair s))

-- tick; set up; add n and a batch with the actor's clock
abbrev pub add_released : TaskId → ℕ → State → State
add_released t n s = let a = alter_task t (ticked t) s in with_permits (adding n (task_at t a).clock a.permits) a

-- 0 does nothing
unfoldable pub release : TaskId → ℕ → State → Granting
release t n s = cond (eqb n 0) (ungranted s) (scan_or_wake (add_released t n s))

-- Drop.

-- queued; having the reservation; holding and not completed
unfoldable pub dropping : Slot → State → Dropping
dropping x s =
    cond (request_at x s).queued Leaving
    (cond (has_reservation x s) Unreserving
    (cond ((request_at x s).holding && not (request_at x s).completed) Returning
    Nothing))

abbrev pub is_first : Slot → List Slot → Bool
is_first x [] = false
is_first x (y ∷ q) = same_slot x y

abbrev pub front_bypassable : List Slot → State → Bool
front_bypassable [] s = false
front_bypassable (x ∷ q) s = is_bypassable (request_at x s).ask.kind

-- remove; on a strictly fair semaphore, if it was first or the new front is Bypassable, scan
unfoldable pub drop_queued : Slot → State → Granting
drop_queued x s =
    let a = leave x s in
    cond (strict s && (is_first x s.queue || front_bypassable a.queue a)) (scan a) (ungranted a)

unfoldable pub drop_work : Dropping → TaskId → Slot → State → Granting
drop_work Leaving t x s = drop_queued x s
drop_work Unreserving t x s = ungranted (s ▷ with_reservation None ▷ wake_unfair)
drop_work Returning t x s = release t (asked_at x s) s
drop_work Nothing t x s = ungranted s

-- dropping a request frees its slot
abbrev pub free : Slot → State → State
free x s = with_slots (set s.slots x.0 None) s

unfoldable pub drop_request : TaskId → Slot → State → Granting
drop_request t x s = let g = drop_work (dropping x s) t x s in record { grants = g.grants; state = free x g.state }

-- Close.

-- unblocking and waking each unfinished task
abbrev pub wake_unfinished : Slot → State → State
wake_unfinished x s = cond (owner_finished x s) s (unblock_and_wake (task_of x s) s)

-- empty the queue in order
unfoldable pub empty_queue : List Slot → State → State
empty_queue [] s = s
empty_queue (x ∷ q) s = empty_queue q (s ▷ leave x ▷ wake_unfinished x)

-- then the reservation
abbrev pub drop_reservation : Option Slot → State → State
drop_reservation None s = s
drop_reservation (Some x) s = s ▷ with_reservation None ▷ wake_unfinished x

-- nothing if closed
unfoldable pub closing : State → State
closing s = cond s.closed s (s ▷ close ▷ empty_queue s.queue ▷ drop_reservation s.reservation)

-- The effect of a step that is not refused.
unfoldable pub effect_of : TaskId → Act → State → Outcome
effect_of t (Acquire n) s = make t (plain_ask Back n) s
effect_of t (AcquireBypassable n) s = make t (plain_ask Bypassable n) s
effect_of t (AcquireReserving least n) s = make t (reserving_ask least n) s
effect_of t (Upgrade held wanted) s = make t (upgrade_ask (strict s) (wanted - held)) s
effect_of t (Poll x) s = poll t x s
effect_of t (Try n) s = try_by (direct Back n s) t n s
effect_of t (TryUpgrade held wanted) s = try_by (direct Front (wanted - held) s) t (wanted - held) s
effect_of t (Release n) s = doing (release t n s)
effect_of t (Drop x) s = doing (drop_request t x s)
effect_of t Close s = quiet done (closing s)
effect_of t Sleep s = quiet done (alter_task t slept s)
effect_of t Finish s = quiet done (alter_task t finished s)

abbrev pub effect : Step → State → Outcome
effect a s = effect_of a.actor a.act s
