-- Finished stays Finished: no step, accepted or refused, in any state, gives a finished task another state; so no run does. (Blocking and unblocking
-- ask nothing of the record that they change: it is the rules that never let them come upon a finished one.)
use Rattle.std.specs.Prelude.{Option, None, Some}
use Prim.Native.Nat.{ℕ}
use mathlib.Core.Path.{◌≡◌, refl, sym, subst}
use mathlib.Core.Bool.{true, false, not, ◌&&◌}
use mathlib.Core.List.{List, [], ◌∷◌}
use borrow.Author.Tests.{not-true}
use lib.Dec.{leb, eqb}
use lib.ListN.{get_or, set}
use Rattle.rules.specs.declared.TaskId.{TaskId}
use Rattle.rules.specs.declared.Slot.{Slot}
use Rattle.rules.specs.declared.TaskState.{TaskState}
use Rattle.rules.specs.declared.TaskState.TheVariants.{Runnable, Blocked, Sleeping, Finished}
use Rattle.rules.specs.declared.Direct.{Direct}
use Rattle.rules.specs.declared.Direct.TheVariants.{Shut, NoPermits, Take}
use Rattle.rules.specs.declared.Polling.{Polling}
use Rattle.rules.specs.declared.Polling.TheVariants.{Holds, IsClosed, Stays, QueuesBack, QueuesFront, TakesReserved, Takes, Reserves}
use Rattle.rules.specs.declared.Dropping.{Dropping}
use Rattle.rules.specs.declared.Dropping.TheVariants.{Leaving, Unreserving, Returning, Nothing}
use Rattle.rules.specs.declared.Act.{Act}
use Rattle.rules.specs.declared.Step.{Step}
use Rattle.rules.specs.Task.{Task, no_task, is_runnable, is_finished, blocked, unblocked, wakened, slept}
use Rattle.rules.specs.State.{State, strict, stock, task_at, asked_at, least_at, task_of, owner_finished, with_reservation, alter_task, unblock_and_wake}
use Rattle.rules.specs.Taking.{take_as, take_queued, direct}
use Rattle.rules.specs.Scan.{leave, grant_queued, scan}
use Rattle.rules.specs.Waking.{cleared_if, wake_each, wake_by, wake_unfair, cannot_progress, reblock_each, reblock}
use Rattle.rules.specs.Polling.{polling, poll_work}
use Rattle.rules.specs.Steps.{make, fail_try, try_by, poll, add_released, release, dropping, drop_work, drop_request, wake_unfinished, empty_queue, drop_reservation, closing, effect_of}
use Rattle.rules.specs.Runs.{step, run}
use Rattle.rules.proofs.Bools.{by_cond, both, clash}
use Rattle.rules.proofs.Tasks.{by_task}
use Rattle.rules.proofs.Decisions.{by_release, by_drop-queued}
use Rattle.rules.proofs.KeepsScan.{by_walk}
use Rattle.rules.proofs.Accepting.{accepted, Allowed}
use Rattle.rules.proofs.Acting.{by_act}
use Rattle.rules.proofs.KeepsSteps.{by_refusal, by_run}

-- whoever is finished among the tasks ts is so among us
record Lasts (ts us : List Task) : Type 0 where
  at : (i : ℕ) → is_finished (get_or ts i no_task).state ≡ true → is_finished (get_or us i no_task).state ≡ true

abbrev StillFinished : State → State → Type 0
StillFinished s b = Lasts s.tasks b.tasks

lasts : (ts : List Task) → Lasts ts ts
lasts ts = record { at = λ i h. h }

lasts_then : {ts us vs : List Task} → Lasts ts us → Lasts us vs → Lasts ts vs
lasts_then p q = record { at = λ i h. q.at i (p.at i h) }

-- Changes of one task.

-- what is put in its place is finished if it was
still-set : (u : TaskId) (a : Task) (s : State)
    → (is_finished (task_at u s).state ≡ true → is_finished a.state ≡ true) → Lasts s.tasks (set s.tasks u.0 a)
still-set u a s k =
    record {
      at = λ i h.
          by_task (λ (b : Task). is_finished b.state ≡ true) (record { 0 = i }) u (λ b. a) s
          (λ e. k (subst (λ (j : ℕ). is_finished (get_or s.tasks j no_task).state ≡ true) e h)) h;
    }

-- one that is not finished may come to any state
still-unfinished : (u : TaskId) (f : Task → Task) (s : State) → is_finished (task_at u s).state ≡ false → StillFinished s (alter_task u f s)
still-unfinished u f s k = still-set u (f (task_at u s)) s (λ e. clash e k)

still-awake : (u : TaskId) (s : State) → is_finished (task_at u s).state ≡ false → StillFinished s (unblock_and_wake u s)
still-awake u s k = still-unfinished u (λ a. wakened (unblocked a)) s k

still_taken : (t : TaskId) (n : ℕ) (s : State) → StillFinished s (take_as t n s)
unfolding take_as
still_taken t n s = still-set t _ s (λ e. e)

still_failed : (t : TaskId) (s : State) → StillFinished s (fail_try t s)
still_failed t s = still-set t _ s (λ e. e)

-- A scan: who is granted is not finished.

still_granted : (x : Slot) (s : State) → owner_finished x s ≡ false → StillFinished s (grant_queued x s)
unfolding grant_queued take_queued
still_granted x s k =
    lasts_then (still-set (task_of x s) _ s (λ e. e)) (still-awake (task_of x s) (take_queued x s) (unfinished-set (task_of x s) _ s k k))
  where
    unfinished-set : (u : TaskId) (a : Task) (b : State) → is_finished a.state ≡ false → is_finished (task_at u b).state ≡ false
        → is_finished (get_or (set b.tasks u.0 a) u.0 no_task).state ≡ false
    unfinished-set u a b f g = by_task (λ (c : Task). is_finished c.state ≡ false) u u (λ c. a) b (λ e. f) g

still_scanned : (s : State) → StillFinished s (scan s).state
unfolding scan
still_scanned s =
    by_walk {P = λ q b gs. StillFinished s b} {R = λ g. StillFinished s g.state} (
    record {
      leaves = λ x q b gs k h. h;
      fits = λ x q b gs k h. lasts_then h (still_granted x b k.0);
      passed = λ x q b gs k h. h;
      ends = λ x q b gs k h. h;
      over = λ b gs h. h;
    }
    )
    s.queue s [] (lasts s.tasks)

-- Waking: a reservation whose task is finished is cleared before.

still_each : (q : List Slot) (s : State) → StillFinished s (wake_each q s)
unfolding wake_each
still_each [] s = lasts s.tasks
still_each (x ∷ q) s =
    lasts_then
    (by_cond (StillFinished s) (leb (least_at x s) (stock s) && not (owner_finished x s))
    (λ e. still-awake (task_of x s) s (not-true _ (both (leb (least_at x s) (stock s)) _ e).1)) (λ e. lasts s.tasks))
    (still_each q _)

still-woken : (s : State) → StillFinished s (wake_unfair s)
unfolding wake_unfair
still-woken s = go s.reservation refl
  where
    go : (o : Option Slot) → s.reservation ≡ o → StillFinished s (wake_by (cleared_if o s).reservation (cleared_if o s))
    go None e = subst (λ (r : Option Slot). StillFinished s (wake_by r s)) (sym e) (still_each s.queue s)
    go (Some x) e =
        by_cond (λ b. StillFinished s (wake_by b.reservation b)) (owner_finished x s)
        (λ k. still_each s.queue (with_reservation None s))
        (λ k.
        subst (λ (r : Option Slot). StillFinished s (wake_by r s)) (sym e)
        (by_cond (StillFinished s) (leb (asked_at x s) (stock s)) (λ l. still-awake (task_of x s) s k) (λ l. lasts s.tasks)))

still_reblocked_each : (t : TaskId) (q : List Slot) (s : State) → StillFinished s (reblock_each t q s)
unfolding reblock_each
still_reblocked_each t [] s = lasts s.tasks
still_reblocked_each t (x ∷ q) s =
    lasts_then
    (by_cond (StillFinished s) (cannot_progress x s && not (owner_finished x s) && not (eqb (task_of x s).0 t.0))
    (λ e. still-unfinished (task_of x s) blocked s (not-true _ (both (cannot_progress x s) _ (both _ _ e).0).1)) (λ e. lasts s.tasks))
    (still_reblocked_each t q _)

still_reblocked : (t : TaskId) (s : State) → StillFinished s (reblock t s)
unfolding reblock
still_reblocked t s = by_cond (StillFinished s) (strict s) (λ e. lasts s.tasks) (λ e. still_reblocked_each t s.queue s)

-- Closing.

still-unfinished-woken : (x : Slot) (s : State) → StillFinished s (wake_unfinished x s)
still-unfinished-woken x s = by_cond (StillFinished s) (owner_finished x s) (λ e. lasts s.tasks) (λ e. still-awake (task_of x s) s e)

still_emptied : (q : List Slot) (s : State) → StillFinished s (empty_queue q s)
unfolding empty_queue
still_emptied [] s = lasts s.tasks
still_emptied (x ∷ q) s = lasts_then (still-unfinished-woken x (leave x s)) (still_emptied q _)

still-closed : (s : State) → StillFinished s (closing s)
unfolding closing
still-closed s =
    by_cond (StillFinished s) s.closed (λ e. lasts s.tasks) (λ e. lasts_then (still_emptied s.queue _) (go s.reservation _))
  where
    go : (o : Option Slot) (b : State) → StillFinished b (drop_reservation o b)
    go None b = lasts b.tasks
    go (Some x) b = still-unfinished-woken x (with_reservation None b)

-- Each step.

still-polled : (p : Polling) (t : TaskId) (x : Slot) (s : State) → StillFinished s (poll_work p t x s)
unfolding poll_work
still-polled Holds t x s = lasts s.tasks
still-polled IsClosed t x s = lasts s.tasks
still-polled Stays t x s = lasts s.tasks
still-polled QueuesBack t x s = lasts s.tasks
still-polled QueuesFront t x s = lasts s.tasks
still-polled TakesReserved t x s =
    let a = with_reservation None s in
    lasts_then (still_taken t (asked_at x s) a) (still-woken (take_as t (asked_at x s) a))
still-polled Takes t x s =
    let a = take_as t (asked_at x s) s in
    lasts_then (still_taken t (asked_at x s) s) (still_reblocked t (leave x a))
still-polled Reserves t x s = still_reblocked t (with_reservation (Some x) (leave x s))

still-tried : (d : Direct) (t : TaskId) (n : ℕ) (s : State) → StillFinished s (try_by d t n s).state
unfolding try_by
still-tried Shut t n s = still_failed t s
still-tried NoPermits t n s = still_failed t s
still-tried Take t n s = lasts_then (still_taken t n s) (still_reblocked t (take_as t n s))

still_released : (t : TaskId) (n : ℕ) (s : State) → StillFinished s (release t n s).state
still_released t n s =
    by_release (λ g. StillFinished s g.state) t n s (λ e. lasts s.tasks)
    (λ l f. lasts_then added (still_scanned (add_released t n s))) (λ l f. lasts_then added (still-woken (add_released t n s)))
  where
    added : StillFinished s (add_released t n s)
    added = still-set t _ s (λ e. e)

still_dropped : (d : Dropping) (t : TaskId) (x : Slot) (s : State) → StillFinished s (drop_work d t x s).state
unfolding drop_work
still_dropped Leaving t x s = by_drop-queued (λ g. StillFinished s g.state) x s (still_scanned (leave x s)) (λ e. lasts s.tasks)
still_dropped Unreserving t x s = still-woken (with_reservation None s)
still_dropped Returning t x s = still_released t (asked_at x s) s
still_dropped Nothing t x s = lasts s.tasks

-- who acts is Runnable, so that a finished task does not sleep
runnable_unfinished : (k : TaskState) → is_runnable k ≡ true → is_finished k ≡ false
runnable_unfinished Runnable e = refl
runnable_unfinished Blocked e = refl
runnable_unfinished Sleeping e = refl
runnable_unfinished Finished e = clash e refl

still_acted : (t : TaskId) (a : Act) (s : State) → is_runnable (task_at t s).state ≡ true → Allowed t a s → StillFinished s (effect_of t a s).state
unfolding make poll drop_request
still_acted t a s r k =
    by_act {X = λ o q. StillFinished s q.state}
    (record {
      makes = λ b m. lasts s.tasks;
      polls = λ x p. still-polled (polling x s) t x s;
      tries = λ p n m c. still-tried (direct p n s) t n s;
      releases = λ n c. still_released t n s;
      drops = λ x u c. still_dropped (dropping x s) t x s;
      closes = still-closed s;
      sleeps = still-unfinished t slept s (runnable_unfinished (task_at t s).state r);
      finishes = still-set t _ s (λ e. refl);
    })
    a k

still-stepped : (a : Step) (s : State) → StillFinished s (step a s).state
still-stepped a s =
    by_refusal (λ o. StillFinished s o.state) a s (λ e. let k = accepted a s e in still_acted a.actor a.act s k.runnable k.allowed) (λ n e. lasts s.tasks)

pub finished_stays : (as' : List Step) (s : State) (t : TaskId)
    → is_finished (task_at t s).state ≡ true → is_finished (task_at t (run as' s).state).state ≡ true
finished_stays as' s t = by_run (λ b. is_finished (task_at t b).state ≡ true) (λ a b h. (still-stepped a b).at t.0 h) as' s
