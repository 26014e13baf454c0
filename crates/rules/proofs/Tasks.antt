-- What changes of tasks leave as it was: a task's state and mark are no part of the rest, and waking and reblocking change nothing else.
use Rattle.std.specs.Prelude.{Option, None, Some}
use Prim.Native.Nat.{ℕ}
use native.Mathlib.Omega.{arith}
use native.Mathlib.Decide.{dec_lt}
use mathlib.Core.Path.{◌≡◌, refl, sym, ap, subst, ◌∙◌}
use mathlib.Core.Bool.{not, ◌&&◌}
use mathlib.Core.List.{List, [], ◌∷◌, map}
use borrow.Author.Tests.{eqb-true, eqb-false}
use lib.Dec.{eqb, leb}
use lib.ListN.{length, get_or, set, length-map}
use lib.Seq.{get_or-set_same, get_or-set_other, set_out, map-set_same}
use Rattle.rules.specs.declared.TaskId.{TaskId}
use Rattle.rules.specs.declared.Slot.{Slot}
use Rattle.rules.specs.Clock.{Clock}
use Rattle.rules.specs.Task.{Task, no_task, blocked, unblocked, wakened}
use Rattle.rules.specs.State.{State, strict, stock, asked_at, least_at, task_at, task_of, owner_finished, with_tasks, with_reservation, alter_task, unblock_and_wake}
use Rattle.rules.specs.Waking.{cleared_if, clear_finished, wake_each, wake_by, wake_unfair, cannot_progress, reblock_each, reblock}
use Rattle.rules.specs.Steps.{wake_unfinished}
use Rattle.rules.proofs.Bools.{by_cond, by_test}

-- what holds of a task as altered, and of every task as it was, holds of every task after
pub by_task : (X : Task → Type 0) (t u : TaskId) (f : Task → Task) (s : State)
    → (t.0 ≡ u.0 → X (f (task_at u s))) → X (task_at t s) → X (task_at t (alter_task u f s))
by_task X t u f s h k =
    by_test (eqb u.0 t.0)
    (λ e.
    let same : u.0 ≡ t.0 = eqb-true u.0 t.0 e in
    elim (dec_lt u.0 (length s.tasks)) [
      | yes l ↦
          subst (λ (i : ℕ). X (get_or (set s.tasks u.0 (f (task_at u s))) i no_task)) same
          (subst X (sym (get_or-set_same s.tasks u.0 _ no_task l)) (h (sym same)))
      | no l ↦ subst (λ (ts : List Task). X (get_or ts t.0 no_task)) (sym (set_out s.tasks u.0 _ (omega arith))) k
    ])
    (λ e. subst X (sym (get_or-set_other s.tasks u.0 t.0 _ no_task (λ p. eqb-false u.0 t.0 e (sym p)))) k)

abbrev pub clocks_of : List Task → List Clock
clocks_of ts = map (λ (a : Task). a.clock) ts

-- b is s but for its tasks' states and marks
pub record Roused (s b : State) : Type 0 where
  pub tasks : List Task
  pub same : b ≡ with_tasks tasks s
  pub clocks : clocks_of tasks ≡ clocks_of s.tasks

pub roused_none : (s : State) → Roused s s
roused_none s = record { tasks = s.tasks; same = refl; clocks = refl }

pub roused_then : {a b c : State} → Roused a b → Roused b c → Roused a c
roused_then {a} p q =
    record {
      tasks = q.tasks;
      same = q.same ∙ ap (λ (s : State). with_tasks q.tasks s) p.same;
      clocks = q.clocks ∙ ap (λ (s : State). clocks_of s.tasks) p.same ∙ p.clocks;
    }

pub roused-number : {s b : State} → (r : Roused s b) → length r.tasks ≡ length s.tasks
roused-number {s} r = sym (length-map r.tasks _) ∙ ap (λ (cs : List Clock). length cs) r.clocks ∙ length-map s.tasks _

-- what speaks of no task's state or mark holds after as before
pub roused_keeps : (X : State → Type 0) {s b : State} → (r : Roused s b) → X (with_tasks r.tasks s) → X b
roused_keeps X r h = subst X (sym r.same) h

pub rouse : (t : TaskId) (f : Task → Task) (s : State) → ((a : Task) → (f a).clock ≡ a.clock) → Roused s (alter_task t f s)
rouse t f s h =
    record {
      tasks = set s.tasks t.0 (f (task_at t s));
      same = refl;
      clocks = map-set_same (λ (a : Task). a.clock) s.tasks t.0 (f (task_at t s)) no_task (h (task_at t s));
    }

pub rouse_awake : (t : TaskId) (s : State) → Roused s (unblock_and_wake t s)
rouse_awake t s = rouse t (λ a. wakened (unblocked a)) s (λ a. refl)

pub rouse_unfinished : (x : Slot) (s : State) → Roused s (wake_unfinished x s)
rouse_unfinished x s = by_cond (Roused s) (owner_finished x s) (λ e. roused_none s) (λ e. rouse_awake (task_of x s) s)

pub rouse_each : (q : List Slot) (s : State) → Roused s (wake_each q s)
unfolding wake_each
rouse_each [] s = roused_none s
rouse_each (x ∷ q) s =
    roused_then
    (by_cond (Roused s) (leb (least_at x s) (stock s) && not (owner_finished x s)) (λ e. rouse_awake (task_of x s) s) (λ e. roused_none s))
    (rouse_each q _)

pub rouse_by : (o : Option Slot) (s : State) → Roused s (wake_by o s)
rouse_by None s = rouse_each s.queue s
rouse_by (Some x) s = by_cond (Roused s) (leb (asked_at x s) (stock s)) (λ e. rouse_awake (task_of x s) s) (λ e. roused_none s)

-- a reservation cleared, or not
pub by_cleared : (X : State → Type 0) (s : State) → X s → X (with_reservation None s) → X (clear_finished s)
by_cleared X s h k = go s.reservation
  where
    go : (o : Option Slot) → X (cleared_if o s)
    go None = h
    go (Some x) = by_cond X (owner_finished x s) (λ e. k) (λ e. h)

-- waking the unfair, after clearing the reservation of a finished task
pub rouse_unfair : (s : State) → Roused (clear_finished s) (wake_unfair s)
unfolding wake_unfair
rouse_unfair s = rouse_by (clear_finished s).reservation (clear_finished s)

pub reblocks_each : (t : TaskId) (q : List Slot) (s : State) → Roused s (reblock_each t q s)
unfolding reblock_each
reblocks_each t [] s = roused_none s
reblocks_each t (x ∷ q) s =
    roused_then
    (by_cond (Roused s) (cannot_progress x s && not (owner_finished x s) && not (eqb (task_of x s).0 t.0))
    (λ e. rouse (task_of x s) blocked s (λ a. refl)) (λ e. roused_none s))
    (reblocks_each t q _)

pub reblocks : (t : TaskId) (s : State) → Roused s (reblock t s)
unfolding reblock
reblocks t s = by_cond (Roused s) (strict s) (λ e. roused_none s) (λ e. reblocks_each t s.queue s)
