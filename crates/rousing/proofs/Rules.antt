-- Waking and reblocking as document 01 has them come to what they do to the tasks.
use Rattle.std.specs.Prelude.{Option, None, Some}
use mathlib.Core.Path.{◌≡◌, refl, sym, ap, ◌∙◌}
use mathlib.Core.Bool.{Bool, true, false, cond, not, ◌&&◌, and_comm, and_assoc}
use mathlib.Core.List.{List, [], ◌∷◌}
use lib.Dec.{leb}
use lib.ListN.{set}
use Rattle.rules.specs.declared.TaskId.{TaskId}
use Rattle.rules.specs.declared.Slot.{Slot}
use Rattle.splitting.specs.Plain.{Plain, Task, unblocked, wakened, strict, reserved, task_at, request_at, asked_at, task_of, owner_finished, alter_task, with_tasks, with_reservation}
use Rattle.splitting.specs.Who.{cleared_if, clear_finished, wake_each, wake_by, wake_unfair, cannot_progress, reblock_each, reblock}
use Rattle.rousing.specs.declared.Change.{Change}
use Rattle.rousing.specs.declared.Change.TheVariants.{WakeIfEnough, Reblock}
use Rattle.rousing.specs.Parts.{concerns, change_of, owner_changed, for_each, woken_if_asked}

-- the task of one request changed: on the whole state as on its tasks
on-tasks : (b : Bool) (t : TaskId) (f : Task → Task) (s : Plain) → cond b (alter_task t f s) s ≡ with_tasks (cond b (set s.tasks t.0 (f (task_at t s))) s.tasks) s
on-tasks true t f s = refl
on-tasks false t f s = refl

pub one_changed : (k : Change) (x : Slot) (s : Plain)
    → cond (concerns k (request_at x s) && not (owner_finished x s)) (alter_task (task_of x s) (change_of k) s) s ≡ with_tasks (owner_changed k (request_at x s) s.tasks) s
one_changed k x s = on-tasks (concerns k (request_at x s) && not (owner_finished x s)) (task_of x s) (change_of k) s

wakes_each : (q : List Slot) (s : Plain) → wake_each q s ≡ with_tasks (for_each (WakeIfEnough s.stock) s.slots q s.tasks) s
unfolding wake_each for_each
wakes_each [] s = refl
wakes_each (x ∷ q) s =
    let k = WakeIfEnough s.stock in
    ap (wake_each q) (one_changed k x s) ∙ wakes_each q (with_tasks (owner_changed k (request_at x s) s.tasks) s)

-- Waking the unfair, by the reservation: none; one whose task is finished; one whose task is not.
pub wakes_queue : (s : Plain) → wake_unfair (with_reservation None s) ≡ with_tasks (for_each (WakeIfEnough s.stock) s.slots s.queue s.tasks) (with_reservation None s)
unfolding wake_unfair
wakes_queue s = wakes_each s.queue (with_reservation None s)

module _ (x : Slot) (s : Plain) (m : s.reservation ≡ Some x) where
  cleared : (b : Bool) → owner_finished x s ≡ b → clear_finished s ≡ cond b (with_reservation None s) s
  cleared b e = ap (λ (o : Option Slot). cleared_if o s) m ∙ ap (λ (c : Bool). cond c (with_reservation None s) s) e

  pub wakes_past : owner_finished x s ≡ true → wake_unfair s ≡ wake_unfair (with_reservation None s)
  unfolding wake_unfair
  wakes_past f = ap (λ (a : Plain). wake_by a.reservation a) (cleared true f)

  pub wakes_holder : owner_finished x s ≡ false → wake_unfair s ≡ with_tasks (woken_if_asked s.stock (request_at x s) s.tasks) s
  unfolding wake_unfair
  wakes_holder f =
      ap (λ (a : Plain). wake_by a.reservation a) (cleared false f)
      ∙ ap (λ (o : Option Slot). wake_by o s) m
      ∙ on-tasks (leb (asked_at x s) s.stock) (task_of x s) (λ a. wakened (unblocked a)) s

-- Reblocking.
turned : (a b c : Bool) → a && b && c ≡ c && a && b
turned a b c = and_comm (a && b) c ∙ sym (and_assoc c a b)

reblocks_each : (t : TaskId) (q : List Slot) (s : Plain)
    → reblock_each t q s ≡ with_tasks (for_each (Reblock (reserved s) s.stock t) s.slots q s.tasks) s
unfolding reblock_each for_each
reblocks_each t [] s = refl
reblocks_each t (x ∷ q) s =
    let k = Reblock (reserved s) s.stock t in
    ap (reblock_each t q) (rw (turned (cannot_progress x s)) (one_changed k x s)) ∙ reblocks_each t q (with_tasks (owner_changed k (request_at x s) s.tasks) s)

pub reblocks_none : (t : TaskId) (s : Plain) → strict s ≡ true → reblock t s ≡ s
unfolding reblock
reblocks_none t s e = rw e

pub reblocks_queue : (t : TaskId) (s : Plain) → strict s ≡ false
    → reblock t s ≡ with_tasks (for_each (Reblock (reserved s) s.stock t) s.slots s.queue s.tasks) s
unfolding reblock
reblocks_queue t s e = rw e (reblocks_each t s.queue s)
