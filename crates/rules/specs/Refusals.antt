-- Document 01, "Replies by number": when each is given, and the first that applies.
use Rattle.std.specs.Prelude.{ℕ, ◌+◌, Bool, false, cond, not, ◌&&◌, ◌||◌, List, [], ◌∷◌, leb, ltb, eqb, length, get_or, Option, None, Some}
use Rattle.rules.specs.declared.TaskId.{TaskId}
use Rattle.rules.specs.declared.Slot.{Slot}
use Rattle.rules.specs.declared.Dropping.{Dropping}
use Rattle.rules.specs.declared.Dropping.TheVariants.{Leaving, Unreserving, Returning, Nothing}
use Rattle.rules.specs.Sizes.{slot_count, batch_count, largest}
use Rattle.rules.specs.Task.{is_runnable}
use Rattle.rules.specs.State.{Batch, State, strict, stock, in_use, task_at, request_at, asked_at}
use Rattle.rules.specs.Polling.{polling, takes_in}
use Rattle.rules.specs.declared.Act.{Act}
use Rattle.rules.specs.declared.Act.TheVariants.{Acquire, AcquireBypassable, AcquireReserving, Upgrade, Poll, Try, TryUpgrade, Release, Drop, Close, Sleep, Finish}
use Rattle.rules.specs.declared.Step.{Step}
use Rattle.rules.specs.Steps.{dropping, lowest_free}

-- 1: task number not below the task count
abbrev pub no_such_task : TaskId → State → Bool
no_such_task t s = leb (length s.tasks) t.0

-- 2: acting task not Runnable
abbrev pub not_runnable : TaskId → State → Bool
not_runnable t s = not (is_runnable (task_at t s).state)

-- 3: slot above 31, or free
abbrev pub no_such_request : Slot → State → Bool
no_such_request x s = not (in_use x s)

-- 4: poll of a completed request
abbrev pub is_completed : Slot → State → Bool
is_completed x s = (request_at x s).completed

-- 5: try of 0; poll of a plain ask of 0, neither holding nor closed
abbrev pub polls_nothing : Slot → State → Bool
polls_nothing x s =
    not (request_at x s).ask.reserving && eqb (asked_at x s) 0 && not ((request_at x s).holding || s.closed)

-- 7: reserving: ask 0 or least above ask
abbrev pub bad_reserving : ℕ → ℕ → Bool
bad_reserving least n = eqb n 0 || ltb n least

-- 7: upgrade or try-upgrade: held 0, or wanted not above held
abbrev pub bad_upgrade : ℕ → ℕ → Bool
bad_upgrade held wanted = eqb held 0 || leb wanted held

-- 8: all 32 slots in use
abbrev pub no_free_slot : State → Bool
no_free_slot s = leb slot_count (lowest_free s.slots)

abbrev pub full : Option (List Batch) → Bool
full None = false
full (Some bs) = leb batch_count (length bs)

-- 9: a release above 0, batches set up and 64 standing
abbrev pub no_room : ℕ → State → Bool
no_room n s = ltb 0 n && full s.permits.batches

-- 10: a release carrying the stock past 4,294,967,295
abbrev pub too_many : ℕ → State → Bool
too_many n s = ltb 0 n && ltb largest (stock s + n)

-- 11: the actor would tick an entry at 4,294,967,295
abbrev pub last_tick : TaskId → State → Bool
last_tick t s = leb largest (get_or (task_at t s).clock t.0 0)

abbrev pub returned : Dropping → ℕ → ℕ
returned Leaving n = 0
returned Unreserving n = 0
returned Returning n = n
returned Nothing n = 0

-- how many permits a drop releases
abbrev pub gives_back : Slot → State → ℕ
gives_back x s = returned (dropping x s) (asked_at x s)

-- a number, and whether it is given
pub record Ground : Type 0 where
  pub number : ℕ
  pub given : Bool

infix 70 ◌if◌
abbrev pub ◌if◌ : ℕ → Bool → Ground
n if b = record { number = n; given = b }

-- the first that is given
abbrev pub first : List Ground → Option ℕ
first [] = None
first (g ∷ gs) = cond g.given (Some g.number) (first gs)

-- 10, 9, 11: what a release of n meets
abbrev pub release_grounds : TaskId → ℕ → State → List Ground
release_grounds t n s = 10 if too_many n s ∷ 9 if no_room n s ∷ 11 if (ltb 0 n && last_tick t s) ∷ []

-- What each step can meet besides 14, 1 and 2, in the order 3, 4, 6, 7, 5, 8, 10, 9, 11.
-- A dropped holder that has not completed meets 9, 10 and 11 as a release does, and stays.
unfoldable pub grounds : TaskId → Act → State → List Ground
grounds t (Acquire n) s = 8 if no_free_slot s ∷ []
grounds t (AcquireBypassable n) s = 8 if no_free_slot s ∷ []
grounds t (AcquireReserving least n) s = 6 if strict s ∷ 7 if bad_reserving least n ∷ 8 if no_free_slot s ∷ []
grounds t (Upgrade held wanted) s = 7 if bad_upgrade held wanted ∷ 8 if no_free_slot s ∷ []
grounds t (Poll x) s =
    3 if no_such_request x s ∷ 4 if is_completed x s ∷ 5 if polls_nothing x s ∷ 11 if (takes_in (polling x s) && last_tick t s) ∷ []
grounds t (Try n) s = 5 if eqb n 0 ∷ 11 if last_tick t s ∷ []
grounds t (TryUpgrade held wanted) s = 7 if bad_upgrade held wanted ∷ 11 if last_tick t s ∷ []
grounds t (Release n) s = release_grounds t n s
grounds t (Drop x) s = 3 if no_such_request x s ∷ release_grounds t (gives_back x s) s
grounds t Close s = []
grounds t Sleep s = []
grounds t Finish s = []

-- The first number that a step meets, or none. 14 stands before all of them: it is about what is handed in, before any step is looked at (Broken).
unfoldable pub refusal : Step → State → Option ℕ
refusal a s = first (1 if no_such_task a.actor s ∷ 2 if not_runnable a.actor s ∷ grounds a.actor a.act s)
