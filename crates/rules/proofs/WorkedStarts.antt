-- First lines and the clocks that stand after them, and after the lines behind them, computed.
use Rattle.std.specs.Prelude.{Option, None, Some, option_map}
use Prim.Native.Nat.{ℕ, ◌-◌, ◌≤◌}
use Prim.Native.String.{String}
use native.Mathlib.Omega.{arith}
use mathlib.Core.Path.{◌≡◌, refl}
use mathlib.Core.List.{List, [], ◌∷◌, ◌++◌, map}
use lib.ListN.{length}
use Rattle.rules.specs.declared.Fairness.TheVariants.{StrictlyFair}
use Rattle.rules.specs.Sizes.{width}
use Rattle.rules.specs.Clock.{Clock, join, tick, empty}
use Rattle.rules.specs.Task.{Task}
use Rattle.rules.specs.State.{Batch, State}
use Rattle.rules.specs.Fresh.{Start, first_batch, fresh_tasks, fresh_batches, fresh, refuses12}
use Rattle.rules.specs.Spawning.{family, rows_of, spawned}
use Rattle.rules.specs.Taking.{standing_of, standing, eat, taking, take_as, take_queued, adding, all_bypassable, direct}
use Rattle.rules.specs.Scan.{without, verdict, grant_queued, walk, scan}
use Rattle.rules.specs.Waking.{wake_each, wake_unfair, reblock_each, reblock}
use Rattle.rules.specs.Steps.{try_by, release, effect_of}
use Rattle.rules.specs.Refusals.{grounds, refusal}
use Rattle.rules.specs.Runs.{step, start}
use Rattle.rules.specs.Text.{bytes, same, parts, fields, all_digits, no_leading_zero, value_from, number_of}
use Rattle.rules.specs.Script.{start_with, start_by, start_of, act_of, numbers_of, step_by, step_of, printing}
use Rattle.rules.proofs.Starts.{level_start_by, level_start_of, zero_entries}

-- the clocks of a state: the tasks', the batches' with their sizes (none where they are not set up), last-acquire
pub record Clocked : Type 0 where
  pub tasks : List Clock
  pub batches : Option (List Batch)
  pub last : Clock

abbrev pub clocks_seen : State → Clocked
clocks_seen s = record { tasks = map (λ (t : Task). t.clock) s.tasks; batches = s.permits.batches; last = s.permits.last }

-- the state after some lines
unfoldable pub after_lines : List String → State → State
after_lines [] s = s
after_lines (l ∷ ls) s = after_lines ls (printing (step_of (bytes l)) s).state

-- a first line, the lines behind it, and the clocks after them, each by its first entries
pub record Row : Type 0 where
  pub first : String
  pub behind : List String
  pub shows : Clocked

-- a clock with as many entries 0 behind it as it lacks
abbrev pub wide : Clock → Clock
wide c = c ++ empty (width - length c)

infix 70 ◌with◌
abbrev pub ◌with◌ : ℕ → Clock → Batch
n with c = record { size = n; clock = c }

abbrev pub widened : Clocked → Clocked
widened v = record { tasks = map wide v.tasks; batches = option_map (map (λ (b : Batch). b.size with wide b.clock)) v.batches; last = wide v.last }

unfoldable pub rows : List Row
rows =
    -- spawned: the last child is level with task 0, and the maker's batch has the maker's clock
    record {
      first = "S 1 1 3";
      behind = [];
      shows = record { tasks = (2 ∷ 0 ∷ 0 ∷ []) ∷ (1 ∷ 0 ∷ 0 ∷ []) ∷ (2 ∷ 0 ∷ 0 ∷ []) ∷ []; batches = Some (1 with (1 ∷ 0 ∷ 0 ∷ []) ∷ []); last = 0 ∷ 0 ∷ 0 ∷ [] };
    }
    ∷ record {
      first = "S 1 1 3";
      behind = "T 2 1" ∷ [];
      shows = record { tasks = (2 ∷ 0 ∷ 0 ∷ []) ∷ (1 ∷ 0 ∷ 0 ∷ []) ∷ (2 ∷ 0 ∷ 1 ∷ []) ∷ []; batches = Some []; last = 2 ∷ 0 ∷ 0 ∷ [] };
    }
    -- the same lines behind no entry and behind zero_entries
    ∷ record {
      first = "S 0 0 2";
      behind = "L 0 1" ∷ "T 1 1" ∷ [];
      shows = record { tasks = (2 ∷ 0 ∷ []) ∷ (2 ∷ 1 ∷ []) ∷ []; batches = Some []; last = 1 ∷ 0 ∷ [] };
    }
    ∷ record {
      first = "S 0 0 2 0 0 0 0";
      behind = "L 0 1" ∷ "T 1 1" ∷ [];
      shows = record { tasks = (1 ∷ 0 ∷ []) ∷ (1 ∷ 1 ∷ []) ∷ []; batches = Some []; last = 0 ∷ 0 ∷ [] };
    }
    -- row by row, and not column by column
    ∷ record {
      first = "S 1 1 2 0 7 5 0";
      behind = [];
      shows = record { tasks = (0 ∷ 7 ∷ []) ∷ (5 ∷ 0 ∷ []) ∷ []; batches = Some (1 with (5 ∷ 0 ∷ []) ∷ []); last = 0 ∷ 0 ∷ [] };
    }
    ∷ record {
      first = "S 1 1 2 0 7 5 0";
      behind = "T 0 1" ∷ [];
      shows = record { tasks = (5 ∷ 7 ∷ []) ∷ (5 ∷ 0 ∷ []) ∷ []; batches = Some []; last = 0 ∷ 7 ∷ [] };
    }
    -- with no maker the batches are set up later, with the empty clock
    ∷ record {
      first = "S 2 - 2";
      behind = [];
      shows = record { tasks = (1 ∷ 0 ∷ []) ∷ (1 ∷ 0 ∷ []) ∷ []; batches = None; last = 0 ∷ 0 ∷ [] };
    }
    ∷ record {
      first = "S 2 - 2";
      behind = "T 0 1" ∷ [];
      shows = record { tasks = (2 ∷ 0 ∷ []) ∷ (1 ∷ 0 ∷ []) ∷ []; batches = Some (1 with (0 ∷ 0 ∷ []) ∷ []); last = 1 ∷ 0 ∷ [] };
    }
    ∷ record {
      first = "S 2 - 2 5 0 0 0";
      behind = "T 1 1" ∷ [];
      shows = record { tasks = (5 ∷ 0 ∷ []) ∷ (0 ∷ 1 ∷ []) ∷ []; batches = Some (1 with (0 ∷ 0 ∷ []) ∷ []); last = 0 ∷ 0 ∷ [] };
    }
    ∷ []

pub worked_starts : map (λ (r : Row). option_map (λ (a : Start). clocks_seen (after_lines r.behind (start a).state)) (start_of (bytes r.first))) rows
    ≡ map (λ (r : Row). Some (widened r.shows)) rows
unfolding rows after_lines join tick empty first_batch fresh_tasks fresh_batches fresh refuses12 standing_of standing eat taking take_as take_queued adding all_bypassable direct without verdict grant_queued walk scan wake_each wake_unfair reblock_each reblock try_by release effect_of grounds refusal step start same parts all_digits no_leading_zero value_from number_of family rows_of spawned start_by act_of numbers_of step_by
worked_starts = refl

-- What the laws of Starts ask for: a line with its clocks; one that document 01 reads, and with all entries 0; one that it does not read.
pub laws_met : (start_of (bytes "S 1 1 2 0 7 5 0") ≡ Some (start_with StrictlyFair 1 (Some (record { 0 = 1 })) 2 (0 ∷ 7 ∷ 5 ∷ 0 ∷ [])))
    × (level_start_of (bytes "S 0 0 2") ≡ Some (start_with StrictlyFair 0 (Some (record { 0 = 0 })) 2 (0 ∷ 0 ∷ 0 ∷ 0 ∷ [])))
    × (bytes "S 0 0 2" ++ zero_entries 4 ≡ bytes "S 0 0 2 0 0 0 0")
    × (length (fields (bytes "S 0 2")) ≤ 4)
    × (level_start_of (bytes "S 0 2") ≡ None)
unfolding same parts all_digits no_leading_zero value_from number_of numbers_of start_by level_start_by zero_entries
laws_met = (refl, refl, refl, omega arith, refl)
