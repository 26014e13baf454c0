-- Document 01, "Replies by number", its order: 14, 1, 2, 3, 4, 6, 7, 5, 8, 10, 9, 11. A row is a step that meets several of them at once, in a state that 14
-- does not refuse: all the numbers whose grounds hold there, of which the first is given. For every act the rows tell each number from the next that the
-- act can meet beside it, so that no other order of its grounds would do.
--
-- Neighbours that no step meets together, so that nothing can tell their order: 1 and 2 (where there is no task, a Runnable one is read); 3 and 4 (where
-- there is no request, one is read that has not completed); 4 and 6, 7 and 5, 5 and 8, 8 and 10 (no act has both). Nor, for the same two reasons, 1 and 11,
-- 3 and 10, 3 and 9. 14 stands before all of them, over what is handed in.
use Rattle.std.specs.Prelude.{Option, None, Some}
use Prim.Native.Nat.{ℕ}
use mathlib.Core.Path.{◌≡◌, refl}
use mathlib.Core.Bool.{Bool, true, false, cond}
use mathlib.Core.List.{List, [], ◌∷◌, map}
use lib.ListN.{replicate}
use Rattle.rules.specs.declared.TaskId.{TaskId}
use Rattle.rules.specs.declared.Slot.{Slot}
use Rattle.rules.specs.declared.Step.{Step}
use Rattle.rules.specs.declared.Fairness.{Fairness}
use Rattle.rules.specs.declared.Fairness.TheVariants.{StrictlyFair, Unfair}
use Rattle.rules.specs.declared.TaskState.TheVariants.{Runnable, Sleeping}
use Rattle.rules.specs.declared.Priority.TheVariants.{Back}
use Rattle.rules.specs.declared.Act.TheVariants.{Acquire, AcquireBypassable, AcquireReserving, Upgrade, Poll, Try, TryUpgrade, Release, Drop}
use Rattle.rules.specs.Sizes.{largest}
use Rattle.rules.specs.Clock.{Clock, empty}
use Rattle.rules.specs.Task.{Task}
use Rattle.rules.specs.Request.{Request, plain_ask}
use Rattle.rules.specs.State.{Batch, State}
use Rattle.rules.specs.Taking.{all_bypassable, direct}
use Rattle.rules.specs.Polling.{poll_reserving, poll_plain, polling}
use Rattle.rules.specs.Steps.{◌does◌, lowest_free, dropping}
use Rattle.rules.specs.Refusals.{no_such_task, not_runnable, Ground, ◌if◌, grounds, refusal}
use Rattle.rules.specs.Broken.{any_of, twice, slots_from, total, broken}

-- a step, the state that it meets, and the numbers whose grounds hold there
pub record Row : Type 0 where
  pub step : Step
  pub state : State
  pub meets : List ℕ

infix 68 ◌on◌meets◌
abbrev pub ◌on◌meets◌ : Step → State → List ℕ → Row
a on s meets ns = record { step = a; state = s; meets = ns }

-- the numbers of those that hold
unfoldable pub numbers_given : List Ground → List ℕ
numbers_given [] = []
numbers_given (g ∷ gs) = cond g.given (g.number ∷ numbers_given gs) (numbers_given gs)

-- all that a step meets, and the first of some numbers
abbrev pub met_by : Step → State → List ℕ
met_by a s = numbers_given (1 if no_such_task a.actor s ∷ 2 if not_runnable a.actor s ∷ grounds a.actor a.act s)

abbrev pub foremost : List ℕ → Option ℕ
foremost [] = None
foremost (n ∷ ns) = Some n

-- States that only a caller can hand in. Task 0 is Runnable, task 1 has its own entry at the largest, task 2 sleeps; there is no task 9.

abbrev able : TaskId
able = record { 0 = 0 }

abbrev spent : TaskId
spent = record { 0 = 1 }

abbrev asleep : TaskId
asleep = record { 0 = 2 }

abbrev nobody : TaskId
nobody = record { 0 = 9 }

abbrev zeros : Clock
zeros = replicate 16 0

abbrev three : List Task
three =
    record { state = Runnable; woken = false; clock = zeros }
    ∷ record { state = Runnable; woken = false; clock = 0 ∷ largest ∷ replicate 14 0 }
    ∷ record { state = Sleeping; woken = false; clock = zeros }
    ∷ []

-- All 32 slots in use. Slot 0 holds 1 and has not completed, slot 1 has completed and asks for 0, slot 2 asks for 0; there is no slot 40.

abbrev holder : Slot
holder = record { 0 = 0 }

abbrev complete : Slot
complete = record { 0 = 1 }

abbrev zero-ask : Slot
zero-ask = record { 0 = 2 }

abbrev missing : Slot
missing = record { 0 = 40 }

abbrev asking : ℕ → Bool → Bool → Option Request
asking n holds completes =
    Some (record { ask = plain_ask Back n; clock = zeros; task = able; queued = false; holding = holds; completed = completes; polled = false })

abbrev all_used : List (Option Request)
all_used = asking 1 true false ∷ asking 0 false true ∷ asking 0 false false ∷ replicate 29 (asking 1 false false)

abbrev handed : Fairness → ℕ → List Batch → State
handed f n bs =
    record {
      fairness = f;
      closed = false;
      permits = record { stock = n; batches = Some bs; last = zeros };
      queue = [];
      reservation = None;
      tasks = three;
      slots = all_used;
    }

abbrev batch_of : ℕ → Batch
batch_of n = record { size = n; clock = zeros }

-- 64 batches, with the stock at the largest, strictly fair and unfair; and 64 batches of 1
unfoldable pub brim : State
brim = handed StrictlyFair 4_294_967_295 (batch_of 4_294_967_232 ∷ replicate 63 (batch_of 1))

unfoldable pub loose : State
loose = handed Unfair 4_294_967_295 (batch_of 4_294_967_232 ∷ replicate 63 (batch_of 1))

unfoldable pub packed : State
packed = handed StrictlyFair 64 (replicate 64 (batch_of 1))

unfoldable pub rows : List Row
rows =
    nobody does Acquire 1 on brim meets (1 ∷ 8 ∷ [])
    ∷ asleep does Acquire 1 on brim meets (2 ∷ 8 ∷ [])
    ∷ nobody does AcquireBypassable 1 on brim meets (1 ∷ 8 ∷ [])
    ∷ asleep does AcquireBypassable 1 on brim meets (2 ∷ 8 ∷ [])
    ∷ nobody does AcquireReserving 0 0 on brim meets (1 ∷ 6 ∷ 7 ∷ 8 ∷ [])
    ∷ asleep does AcquireReserving 0 0 on brim meets (2 ∷ 6 ∷ 7 ∷ 8 ∷ [])
    ∷ able does AcquireReserving 0 0 on brim meets (6 ∷ 7 ∷ 8 ∷ [])
    ∷ able does AcquireReserving 0 0 on loose meets (7 ∷ 8 ∷ [])
    ∷ nobody does Upgrade 0 1 on brim meets (1 ∷ 7 ∷ 8 ∷ [])
    ∷ asleep does Upgrade 0 1 on brim meets (2 ∷ 7 ∷ 8 ∷ [])
    ∷ able does Upgrade 0 1 on brim meets (7 ∷ 8 ∷ [])
    ∷ nobody does Poll missing on brim meets (1 ∷ 3 ∷ 5 ∷ [])
    ∷ asleep does Poll missing on brim meets (2 ∷ 3 ∷ 5 ∷ [])
    ∷ spent does Poll missing on brim meets (3 ∷ 5 ∷ 11 ∷ [])
    ∷ nobody does Poll complete on brim meets (1 ∷ 4 ∷ 5 ∷ [])
    ∷ asleep does Poll complete on brim meets (2 ∷ 4 ∷ 5 ∷ [])
    ∷ spent does Poll complete on brim meets (4 ∷ 5 ∷ 11 ∷ [])
    ∷ spent does Poll zero-ask on brim meets (5 ∷ 11 ∷ [])
    ∷ nobody does Try 0 on brim meets (1 ∷ 5 ∷ [])
    ∷ asleep does Try 0 on brim meets (2 ∷ 5 ∷ [])
    ∷ spent does Try 0 on brim meets (5 ∷ 11 ∷ [])
    ∷ nobody does TryUpgrade 1 1 on brim meets (1 ∷ 7 ∷ [])
    ∷ asleep does TryUpgrade 1 1 on brim meets (2 ∷ 7 ∷ [])
    ∷ spent does TryUpgrade 1 1 on brim meets (7 ∷ 11 ∷ [])
    ∷ nobody does Release 1 on brim meets (1 ∷ 10 ∷ 9 ∷ [])
    ∷ asleep does Release 1 on brim meets (2 ∷ 10 ∷ 9 ∷ [])
    ∷ spent does Release 1 on brim meets (10 ∷ 9 ∷ 11 ∷ [])
    ∷ spent does Release 1 on packed meets (9 ∷ 11 ∷ [])
    ∷ nobody does Drop missing on brim meets (1 ∷ 3 ∷ [])
    ∷ asleep does Drop missing on brim meets (2 ∷ 3 ∷ [])
    ∷ nobody does Drop holder on brim meets (1 ∷ 10 ∷ 9 ∷ [])
    ∷ asleep does Drop holder on brim meets (2 ∷ 10 ∷ 9 ∷ [])
    ∷ spent does Drop holder on brim meets (10 ∷ 9 ∷ 11 ∷ [])
    ∷ spent does Drop holder on packed meets (9 ∷ 11 ∷ [])
    ∷ []

-- what holds in each, and what is given
pub ordered : (map (λ (r : Row). met_by r.step r.state) rows ≡ map (λ (r : Row). r.meets) rows)
    × (map (λ (r : Row). refusal r.step r.state) rows ≡ map (λ (r : Row). foremost r.meets) rows)
unfolding rows brim loose packed numbers_given empty all_bypassable direct poll_reserving poll_plain polling lowest_free dropping grounds refusal
ordered = (refl, refl)

-- 14 refuses none of the states
pub handed_in : map broken (brim ∷ loose ∷ packed ∷ []) ≡ false ∷ false ∷ false ∷ []
unfolding brim loose packed any_of twice slots_from total broken
handed_in = refl
