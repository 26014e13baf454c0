-- What the ring by value and the lent words stand for: the times as `Kept` has them. What a function is not lent stands beside it.
use Rattle.std.specs.Prelude.{ℕ, ◌≤◌, ◌<◌, ◌≡◌, Bool, true, false, ◌&&◌, List, [], ◌∷◌, leb, ltb, get_or, set, Option}
use Rattle.rules.specs.declared.TaskId.{TaskId}
use Rattle.rules.specs.declared.Step.{Step}
use Rattle.rules.specs.Sizes.{width, max_tasks, slot_count, largest}
use Rattle.rules.specs.Clock.{Clock, tick, empty}
use Rattle.rules.specs.Refusals.{◌if◌, first, full}
use Rattle.rules.specs.Steps.{Answer}
use Rattle.rules.specs.Steps.Answer.{done, granted, pending, closed, none_left, made, refused}
use Rattle.splitting.specs.Kept.{Kept, clock_at, taking, kept_step}
use Rattle.rules.specs.State.{Batch}
use Rattle.splitting.specs.Times.{Known}
use Rattle.tables.specs.Table.{row, table}
use Rattle.batches.specs.View.{stands_in, WellFormed}
use Rattle.batches.specs.declared.Batches.{Batches}
use Rattle.clock.specs.declared.VectorClock.{VectorClock}
use Rattle.splitting.specs.declared.Timing.{Timing}
use Rattle.splitting.specs.declared.Timing.TheVariants.{Makes, Takes, Tries, Gives, Stays}

-- n clocks of w entries
unfoldable pub clocks_of : ℕ → ℕ → List ℕ → List Clock
clocks_of w n xs = table (row w xs) 0 n

abbrev pub clocks_at : ℕ → List ℕ → List Clock
clocks_at n xs = clocks_of width n xs

abbrev pub clock_in : ℕ → List ℕ → ℕ → Clock
clock_in n xs i = get_or (clocks_at n xs) i (empty width)

-- the ring, and the lent words: sizes, rows, last, makers, clocks
abbrev pub kept_of : Batches → List ℕ → List ℕ → List ℕ → List ℕ → List ℕ → Kept
kept_of b sizes rows last makers clocks =
    record {
      clocks = clocks_at max_tasks clocks;
      requests = clocks_at slot_count makers;
      batches = stands_in b sizes rows;
      last = row width last 0;
    }

pub record Shows (b : Batches) (sizes rows last makers clocks : List ℕ) (w : Kept) : Type 0 where
  pub formed : WellFormed b
  pub view : kept_of b sizes rows last makers clocks ≡ w

-- one of the tasks, whose own entry is not yet the largest
pub record MayTick (t : TaskId) (clocks : List ℕ) : Type 0 where
  pub task : t.0 < max_tasks
  pub entry : get_or (clock_in max_tasks clocks t.0) t.0 0 < largest

-- a task that ticked, and its clock
pub record Ticked (c : VectorClock) (after : List ℕ) (t : TaskId) (before : List ℕ) : Type 0 where
  pub clocks : clocks_at max_tasks after ≡ set (clocks_at max_tasks before) t.0 (tick t.0 (clock_in max_tasks before t.0))
  pub clock : c.0 ≡ tick t.0 (clock_in max_tasks before t.0)

-- the actor takes n
abbrev pub taken_as : ℕ → TaskId → ℕ → Kept → Kept
taken_as k t n w = taking k n (clock_at t w) t (λ c. tick t.0 c) w

-- 9, then 11, as `times_refusal` of `Times`
abbrev pub last_tick : TaskId → Kept → Bool
last_tick t w = leb largest (get_or (clock_at t w) t.0 0)

unfoldable pub refusal_kept : TaskId → Known → Kept → Option ℕ
refusal_kept t k w = first (9 if (ltb 0 k.back && full w.batches) ∷ 11 if (k.ticks && last_tick t w) ∷ [])

abbrev pub is_failed : Answer → Bool
is_failed done = false
is_failed granted = false
is_failed pending = false
is_failed closed = true
is_failed none_left = true
is_failed (made x) = false
is_failed (refused n) = false

-- What a step must find that was not refused: a number for each tick and room for the batch; and of its grants, that the actor's own are
-- at most one, and none after a failed try.
abbrev pub Able : Timing → TaskId → Answer → ℕ → ℕ → List ℕ → Option (List Batch) → Type 0
Able Makes t a count back clocks bs = Unit {0}
Able Takes t a count back clocks bs = (count ≤ 1) × (0 < count → MayTick t clocks)
Able Tries t a count back clocks bs = (count ≤ 1) × (MayTick t clocks) × (is_failed a ≡ true → count ≡ 0)
Able Gives t a count back clocks bs = (count ≤ slot_count) × (0 < back → MayTick t clocks) × (0 < back → full bs ≡ false)
Able Stays t a count back clocks bs = Unit {0}

-- The same of a step that leaves permits, queue and reservation as they are: a try among them failed, and its actor ticks.
abbrev pub AbleAtRest : Timing → TaskId → Answer → List ℕ → Type 0
AbleAtRest Makes t a clocks = Unit {0}
AbleAtRest Takes t a clocks = Unit {0}
AbleAtRest Tries t a clocks = (MayTick t clocks) × (is_failed a ≡ true)
AbleAtRest Gives t a clocks = Unit {0}
AbleAtRest Stays t a clocks = Unit {0}

-- what it does to the times, whatever the batches: nothing is granted, and nothing comes back
abbrev pub RestsInTimes : Step → Answer → List ℕ → List ℕ → List ℕ → List ℕ → List ℕ → Type 0
RestsInTimes s a last makers' clocks' makers clocks =
    (b : Batches) (sizes rows : List ℕ) (k : ℕ) (f : Bool)
    → kept_of b sizes rows last makers' clocks' ≡ kept_step s a [] (record { stock = k; back = 0; ticks = f }) (kept_of b sizes rows last makers clocks)
