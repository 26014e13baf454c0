-- A number above 255 names no task and no slot, so that 255 in its place makes no difference.
use Rattle.std.specs.Prelude.{Option, None, Some}
use Prim.Native.Nat.{ℕ, min, ◌≤◌}
use native.Mathlib.Decide.{dec_le}
use native.Mathlib.Omega.{arith}
use mathlib.Core.Path.{◌≡◌, refl, ap, sym, ◌∙◌}
use mathlib.Core.Bool.{true}
use lib.ListN.{length}
use Rattle.rules.specs.declared.TaskId.{TaskId}
use Rattle.rules.specs.declared.Slot.{Slot}
use Rattle.rules.specs.declared.Act.{Act}
use Rattle.rules.specs.declared.Act.TheVariants.{Acquire, AcquireBypassable, AcquireReserving, Upgrade, Poll, Try, TryUpgrade, Release, Drop, Close, Sleep, Finish}
use Rattle.rules.specs.declared.Step.{Step}
use Rattle.rules.specs.Sizes.{max_tasks, slot_count}
use Rattle.rules.specs.State.{State}
use Rattle.rules.specs.Fresh.{Start, refuses12}
use Rattle.rules.specs.Steps.{◌does◌}
use Rattle.rules.specs.Runs.{step, start}
use Rattle.rules.proofs.Naming.{past_tasks, past_slots, same-actor, same-poll, same_drop, no_such_maker}
use Rattle.rules.proofs.Scripts.{many_tasks}
use Rattle.rules.proofs.Laws.{refused-start}
use Rattle.script.specs.Opening.{maker_within, start_named}
use Rattle.script.specs.Saying.{task_named, slot_named, act_within, step_within}

-- up to 255 a number is itself
itself : (n : ℕ) → n ≤ 255 → min n 255 ≡ n
itself n h = omega arith

module _ (s : State) (tasks : length s.tasks ≤ max_tasks) (slots : length s.slots ≡ slot_count) where
  poll-within : (t : TaskId) (x : Slot) → step (t does Poll (slot_named x.0)) s ≡ step (t does Poll x) s
  poll-within t x =
      elim (dec_le x.0 255) [
        | yes h ↦ rw (itself x.0 h)
        | no h ↦ same-poll t (slot_named x.0) x s (past_slots (slot_named x.0) s (omega arith)) (past_slots x s (omega arith))
      ]

  drop-within : (t : TaskId) (x : Slot) → step (t does Drop (slot_named x.0)) s ≡ step (t does Drop x) s
  drop-within t x =
      elim (dec_le x.0 255) [
        | yes h ↦ rw (itself x.0 h)
        | no h ↦ same_drop t (slot_named x.0) x s (past_slots (slot_named x.0) s (omega arith)) (past_slots x s (omega arith))
      ]

  act_within_lem : (t : TaskId) (a : Act) → step (t does act_within a) s ≡ step (t does a) s
  act_within_lem t (Acquire n) = refl
  act_within_lem t (AcquireBypassable n) = refl
  act_within_lem t (AcquireReserving least n) = refl
  act_within_lem t (Upgrade held wanted) = refl
  act_within_lem t (Poll x) = poll-within t x
  act_within_lem t (Try n) = refl
  act_within_lem t (TryUpgrade held wanted) = refl
  act_within_lem t (Release n) = refl
  act_within_lem t (Drop x) = drop-within t x
  act_within_lem t Close = refl
  act_within_lem t Sleep = refl
  act_within_lem t Finish = refl

  -- A step has the outcome that it has by the numbers that the program passes on.
  pub step-within : (a : Step) → step (step_within a) s ≡ step a s
  step-within a =
      elim (dec_le a.actor.0 255) [
        | yes h ↦ rw (itself a.actor.0 h) (act_within_lem a.actor a.act)
        | no h ↦ same-actor (step_within a) a s (past_tasks (task_named a.actor.0) s (omega arith)) (past_tasks a.actor s (omega arith))
      ]

-- The maker of a start.

-- a number up to 255 is kept; a larger one is refused, as 255 is
data Kept (a : Start) : Type 0 where
  kept : start_named a ≡ a → Kept a
  refused_both : refuses12 (start_named a) ≡ true → refuses12 a ≡ true → Kept a

refused-maker : (a : Start) (t : TaskId) → a.maker ≡ Some t → 255 ≤ t.0 → refuses12 a ≡ true
refused-maker a t e h =
    elim (dec_le a.tasks t.0) [ yes l ↦ no_such_maker a t e l | no l ↦ many_tasks a (omega arith) ]

same-maker : (a : Start) → maker_within a.maker ≡ a.maker → start_named a ≡ a
same-maker a p = λ i. record { fairness = a.fairness; stock = a.stock; tasks = a.tasks; clocks = a.clocks; maker = p i }

keep : (a : Start) (m : Option TaskId) → a.maker ≡ m → Kept a
keep a None e = kept (same-maker a (ap maker_within e ∙ sym e))
keep a (Some t) e =
    elim (dec_le t.0 255) [
      | yes h ↦
          let named : maker_within (Some t) ≡ Some t = rw (itself t.0 h) in
          kept (same-maker a (ap maker_within e ∙ named ∙ sym e))
      | no h ↦ refused_both (refused-maker (start_named a) (task_named t.0) (ap maker_within e) (omega arith)) (refused-maker a t e (omega arith))
    ]

-- A start begins what it begins by the number that the program passes on.
start-kept : (a : Start) → Kept a → start (start_named a) ≡ start a
start-kept a (kept e) = rw e
start-kept a (refused_both h k) = refused-start (start_named a) h ∙ sym (refused-start a k)

pub start-within : (a : Start) → start (start_named a) ≡ start a
start-within a = start-kept a (keep a a.maker refl)
