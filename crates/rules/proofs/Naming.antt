-- Which number a step or a first line names makes no difference where it names nothing.
use Rattle.std.specs.Prelude.{None, Some}
use Prim.Native.Nat.{ℕ, ◌≤◌}
use mathlib.Core.Path.{◌≡◌, refl, sym, ◌∙◌}
use mathlib.Core.Bool.{Bool, true, false, cond, or-true}
use lib.ListN.{length, get_or-eq_default}
use borrow.Author.Tests.{le-leb}
use Rattle.rules.specs.declared.TaskId.{TaskId}
use Rattle.rules.specs.declared.Slot.{Slot}
use Rattle.rules.specs.declared.Act.TheVariants.{Poll, Drop}
use Rattle.rules.specs.declared.Step.{Step}
use Rattle.rules.specs.State.{State}
use Rattle.rules.specs.Fresh.{Start, refuses12}
use Rattle.rules.specs.Steps.{◌does◌, quiet}
use Rattle.rules.specs.Steps.Answer.{refused}
use Rattle.rules.specs.Refusals.{no_such_task, not_runnable, no_such_request, grounds, refusal}
use Rattle.rules.specs.Runs.{step}
use Rattle.rules.proofs.Laws.{refused-step}

-- A number at or past the count names no task, and no request.
pub past_tasks : (t : TaskId) (s : State) → length s.tasks ≤ t.0 → no_such_task t s ≡ true
past_tasks t s h = le-leb (length s.tasks) t.0 h

pub past_slots : (x : Slot) (s : State) → length s.slots ≤ x.0 → no_such_request x s ≡ true
past_slots x s h = rw (get_or-eq_default s.slots None h)

-- A step whose actor is no task is refused by 1, whatever it does.
pub no_such_actor : (a : Step) (s : State) → no_such_task a.actor s ≡ true → step a s ≡ quiet (refused 1) s
unfolding refusal
no_such_actor a s h = refused-step a s 1 (rw h)

pub same-actor : (a b : Step) (s : State) → no_such_task a.actor s ≡ true → no_such_task b.actor s ≡ true → step a s ≡ step b s
same-actor a b s h k = no_such_actor a s h ∙ sym (no_such_actor b s k)

-- what a step meets whose slot is above 31 or free
met_first : Bool → Bool → ℕ
met_first nobody stopped = cond nobody 1 (cond stopped 2 3)

met : (nobody stopped : Bool) → cond nobody (Some 1) (cond stopped (Some 2) (Some 3)) ≡ Some (met_first nobody stopped)
unfolding met_first
met true stopped = refl
met false true = refl
met false false = refl

poll_met : (t : TaskId) (x : Slot) (s : State) → no_such_request x s ≡ true → step (t does Poll x) s ≡ quiet (refused (met_first (no_such_task t s) (not_runnable t s))) s
unfolding refusal grounds
poll_met t x s h = refused-step (t does Poll x) s _ (rw h (met (no_such_task t s) (not_runnable t s)))

drop_met : (t : TaskId) (x : Slot) (s : State) → no_such_request x s ≡ true → step (t does Drop x) s ≡ quiet (refused (met_first (no_such_task t s) (not_runnable t s))) s
unfolding refusal grounds
drop_met t x s h = refused-step (t does Drop x) s _ (rw h (met (no_such_task t s) (not_runnable t s)))

-- Two polls, or two drops, whose slots are above 31 or free have the same outcome.
pub same-poll : (t : TaskId) (x y : Slot) (s : State) → no_such_request x s ≡ true → no_such_request y s ≡ true → step (t does Poll x) s ≡ step (t does Poll y) s
same-poll t x y s h k = poll_met t x s h ∙ sym (poll_met t y s k)

pub same_drop : (t : TaskId) (x y : Slot) (s : State) → no_such_request x s ≡ true → no_such_request y s ≡ true → step (t does Drop x) s ≡ step (t does Drop y) s
same_drop t x y s h k = drop_met t x s h ∙ sym (drop_met t y s k)

-- A start whose maker is no task is refused.
pub no_such_maker : (a : Start) (t : TaskId) → a.maker ≡ Some t → a.tasks ≤ t.0 → refuses12 a ≡ true
unfolding refuses12
no_such_maker a t e h = rw (e, le-leb a.tasks t.0 h, or-true)
