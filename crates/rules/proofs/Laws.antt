-- Laws that a wrong definition of a step, of available or of a question would fail.
use Rattle.std.specs.Prelude.{Some}
use Prim.Native.Nat.{ℕ, zero, suc, ◌+◌, ◌*◌, ◌-◌, ◌<◌}
use native.Mathlib.Nat.{zero-mul, suc-mul}
use native.Mathlib.Omega.{arith}
use mathlib.Core.Path.{◌≡◌, refl, ◌∙◌}
use mathlib.Core.Bool.{Bool, true, false, cond, not, ◌&&◌, ◌||◌}
use mathlib.Core.List.{List, ◌∷◌, ◌++◌, map}
use borrow.Author.Tests.{lt-leb}
use lib.ListN.{get_or, take, drop}
use lib.Seq.{map-set_same, drop-drop}
use Rattle.rules.specs.declared.TaskId.{TaskId}
use Rattle.rules.specs.declared.Step.{Step}
use Rattle.rules.specs.declared.Act.TheVariants.{Finish}
use Rattle.rules.specs.declared.Question.{Question}
use Rattle.rules.specs.declared.Question.TheVariants.{BeforePoll, BeforeDrop, BeforeDropAgain}
use Rattle.rules.specs.declared.Dropping.{Dropping}
use Rattle.rules.specs.declared.Dropping.TheVariants.{Leaving, Unreserving, Returning, Nothing}
use Rattle.rules.specs.declared.Slot.{Slot}
use Rattle.rules.specs.declared.Grant.{Grant}
use Rattle.rules.specs.declared.Verdict.TheVariants.{Ends}
use Rattle.rules.specs.Sizes.{width}
use Rattle.rules.specs.Clock.{join, empty}
use Rattle.rules.specs.Task.{Task, no_task, finished}
use Rattle.rules.specs.State.{State, strict, reserved, available, has_reservation, task_at, request_at, least_at}
use Rattle.rules.specs.Fresh.{Start, fresh_tasks, refused_fresh, refuses12}
use Rattle.rules.specs.Taking.{taking, take_as}
use Rattle.rules.specs.Scan.{verdict, walk}
use Rattle.rules.specs.Steps.{quiet, dropping, effect_of}
use Rattle.rules.specs.Steps.Answer.{refused}
use Rattle.rules.specs.Refusals.{refusal}
use Rattle.rules.specs.Points.{point, ask}
use Rattle.rules.specs.Runs.{step, start}
use Rattle.rules.proofs.Bools.{◌nor◌, not_both}

-- A refused step returns its number, no grants, and the state exactly as it came in.
pub refused-step : (a : Step) (s : State) (n : ℕ) → refusal a s ≡ Some n → step a s ≡ quiet (refused n) s
unfolding step
refused-step a s n e = rw e

-- A refused start is the state that document 01 names.
pub refused-start : (a : Start) → refuses12 a ≡ true → start a ≡ quiet (refused 12) refused_fresh
unfolding start
refused-start a e = rw e

-- Available is 0 while reserved.
pub reserved-available : (s : State) → reserved s ≡ true → available s ≡ 0
reserved-available s e = rw e

-- A question changes nothing, refused or not.
pub question_changes_nothing : (t : TaskId) (q : Question) (s : State) → (ask t q s).state ≡ s
question_changes_nothing t q s = refl

-- A scan ends inside its walk: behind the first request too large and not Bypassable it changes nothing and grants nothing.
pub scan-ends : (x : Slot) (q : List Slot) (s : State) (gs : List Grant) → verdict x s ≡ Ends → walk (x ∷ q) s gs ≡ record { grants = gs; state = s }
unfolding walk
scan-ends x q s gs e = rw e

-- A taking joins the taker's clock into last-acquire as it was before the tick.
pub taken_last : (t : TaskId) (n : ℕ) (s : State) → (take_as t n s).permits.last ≡ join s.permits.last (task_at t s).clock
unfolding take_as taking
taken_last t n s = refl

-- A poll's question reads what is available, which is nothing while reserved, whatever the stock.
pub reserved-point : (x : Slot) (s : State) → reserved s ≡ true → strict s ≡ false → (request_at x s).holding ≡ false → s.closed ≡ false → 0 < least_at x s
    → point (BeforePoll x) s ≡ false
unfolding point
reserved-point x s r u h c l =
    not_both (not (request_at x s).polled) _
    (λ e. u nor h nor c nor lt-leb (least_at x s) (available s) (omega (arith, l, reserved-available s r)))

-- A drop's questions are about what the drop does: the first about leaving the queue or the reservation, the second about giving permits back.
abbrev leaves_in : Dropping → Bool
leaves_in Leaving = true
leaves_in Unreserving = true
leaves_in Returning = false
leaves_in Nothing = false

abbrev returns_in : Dropping → Bool
returns_in Leaving = false
returns_in Unreserving = false
returns_in Returning = true
returns_in Nothing = false

pub drop_points : (x : Slot) (s : State)
    → (point (BeforeDrop x) s ≡ leaves_in (dropping x s)) × (point (BeforeDropAgain x) s ≡ returns_in (dropping x s))
unfolding point dropping
drop_points x s = go (request_at x s).queued (has_reservation x s) (request_at x s).holding (request_at x s).completed
  where
    by : Bool → Bool → Bool → Dropping
    by q v b = cond q Leaving (cond v Unreserving (cond b Returning Nothing))

    go : (q v h c : Bool) → ((q || v) ≡ leaves_in (by q v (h && not c))) × ((not (q || v) && h && not c) ≡ returns_in (by q v (h && not c)))
    go true v h c = (refl, refl)
    go false true h c = (refl, refl)
    go false false true true = (refl, refl)
    go false false true false = (refl, refl)
    go false false false c = (refl, refl)

-- A finish leaves every woken mark, that of the finished task too.
pub finish_keeps_marks : (t : TaskId) (s : State)
    → map (λ (a : Task). a.woken) (effect_of t Finish s).state.tasks ≡ map (λ (a : Task). a.woken) s.tasks
unfolding effect_of
finish_keeps_marks t s = map-set_same (λ (a : Task). a.woken) s.tasks t.0 (finished (task_at t s)) no_task refl

-- In a fresh state: row i of any starting clocks, filled up to the width, is task i's clock.
pub task-row : (n k i : ℕ) (rows : List ℕ) → i < k → (get_or (fresh_tasks n k rows) i no_task).clock ≡ take n (drop (i * n) rows) ++ empty (width - n)
unfolding fresh_tasks
task-row n zero i rows h = absurd (omega arith)
task-row n (suc k) zero rows h = rw (zero-mul n)
task-row n (suc k) (suc i) rows h =
    let e : n + i * n ≡ suc i * n = omega (arith, suc-mul i n) in
    task-row n k i (drop n rows) (omega arith) ∙ rw (drop-drop (i * n) n rows, e)
