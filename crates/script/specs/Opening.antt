-- What the readers of a first line answer, as the rules see it.
use Rattle.std.specs.Prelude.{ℕ, ◌≤◌, ◌≡◌, List, [], ◌∷◌, length, drop, Option, None, Some, option_map}
use Rattle.rules.specs.declared.TaskId.{TaskId}
use Rattle.rules.specs.declared.Fairness.{Fairness}
use Rattle.rules.specs.Fresh.{Start}
use Rattle.rules.specs.Spawning.{spawned}
use Rattle.rules.specs.Text.{fields, number_of}
use Rattle.rules.specs.Script.{◌>>=◌, maker_of, numbers_of, clocks_said, start_with}
use Rattle.script.specs.declared.First.{First}
use Rattle.script.specs.declared.Opening.{Opening}
use Rattle.script.specs.declared.Opening.TheVariants.{Spawned, Given}
use Rattle.script.specs.Saying.{task_named}

-- a start with its clocks
abbrev pub start_said : First → List ℕ → Start
start_said a cs = start_with a.fairness a.stock a.maker a.tasks cs

-- the clocks of k tasks that fields say
abbrev pub clocks_by : ℕ → List (List ℕ) → Option (List ℕ)
clocks_by k fs = do
  entries ← numbers_of fs
  clocks_said k entries

-- the start that an answer tells: its clocks are spawned, or stand in the line from a place on
abbrev pub opened : List ℕ → Option Opening → Option Start
opened line (Some (Spawned a)) = Some (start_said a (spawned a.tasks))
opened line (Some (Given a at)) = do
  clocks ← clocks_by a.tasks (fields (drop at line))
  Some (start_said a clocks)
opened line None = None

abbrev pub PlaceWithin : List ℕ → Option Opening → Type 0
PlaceWithin line (Some (Spawned a)) = Unit {0}
PlaceWithin line (Some (Given a at)) = at ≤ length line
PlaceWithin line None = Unit {0}

-- an answer tells what the line says, o
pub record Opens (line : List ℕ) (o : Option Start) (r : Option Opening) : Type 0 where
  pub says : opened line r ≡ o
  pub within : PlaceWithin line r

-- a start with its maker named as in a step
abbrev pub maker_within : Option TaskId → Option TaskId
maker_within m = option_map (λ (t : TaskId). task_named t.0) m

abbrev pub start_named : Start → Start
start_named a = record { fairness = a.fairness; stock = a.stock; tasks = a.tasks; clocks = a.clocks; maker = maker_within a.maker }

abbrev pub start_within : Option Start → Option Start
start_within o = option_map start_named o

-- what fields say: the tasks and their clocks; the maker and these; the stock and these
abbrev pub tasks_by : Fairness → ℕ → Option TaskId → List (List ℕ) → Option Start
tasks_by f n m [] = None
tasks_by f n m (k ∷ fs) = do
  tasks ← number_of k
  clocks ← clocks_by tasks fs
  Some (start_with f n m tasks clocks)

abbrev pub maker_by : Fairness → ℕ → List (List ℕ) → Option Start
maker_by f n [] = None
maker_by f n (m ∷ fs) = do
  maker ← maker_of m
  tasks_by f n (maker_within maker) fs

abbrev pub stock_by : Fairness → List (List ℕ) → Option Start
stock_by f [] = None
stock_by f (n ∷ fs) = do
  stock ← number_of n
  maker_by f stock fs

-- the fields from a place of a line on
abbrev pub tasks_on : Fairness → ℕ → Option TaskId → List ℕ → ℕ → Option Start
tasks_on f n m line at = tasks_by f n m (fields (drop at line))

abbrev pub maker_on : Fairness → ℕ → List ℕ → ℕ → Option Start
maker_on f n line at = maker_by f n (fields (drop at line))

abbrev pub stock_on : Fairness → List ℕ → ℕ → Option Start
stock_on f line at = stock_by f (fields (drop at line))
