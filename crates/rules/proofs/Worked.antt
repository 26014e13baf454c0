-- Document 01, "The script program": scripts and what is printed for them, computed byte for byte.
use Prim.Native.Nat.{ℕ}
use Prim.Native.String.{String}
use mathlib.Core.Path.{◌≡◌, refl}
use mathlib.Core.List.{List, [], ◌∷◌, ◌++◌, map}
use Rattle.rules.specs.Clock.{join, tick, empty}
use Rattle.rules.specs.Spawning.{family, rows_of, spawned}
use Rattle.rules.specs.Fresh.{first_batch, fresh_tasks, fresh_batches, fresh, refuses12}
use Rattle.rules.specs.Taking.{standing_of, standing, eat, taking, take_as, take_queued, adding, all_bypassable, direct}
use Rattle.rules.specs.Scan.{without, verdict, grant_queued, walk, scan}
use Rattle.rules.specs.Waking.{wake_each, wake_unfair, reblock_each, reblock}
use Rattle.rules.specs.Polling.{poll_reserving, poll_plain, polling, poll_work}
use Rattle.rules.specs.Steps.{lowest_free, make, try_by, poll, release, dropping, drop_queued, drop_work, drop_request, empty_queue, closing, effect_of}
use Rattle.rules.specs.Refusals.{grounds, refusal}
use Rattle.rules.specs.Runs.{step, start}
use Rattle.rules.specs.Text.{bytes, same, parts, joined_by, lines_of, all_digits, no_leading_zero, value_from, number_of, last_digits, digits}
use Rattle.rules.specs.Script.{start_by, act_of, numbers_of, step_by, end_line, outcome_text, trace, program, printed}

-- a line of a script, and the line that it prints
pub record Row : Type 0 where
  pub input : String
  pub output : String

infix 70 ◌prints◌
abbrev pub ◌prints◌ : String → String → Row
i prints o = record { input = i; output = o }

unfoldable pub inputs : List Row → List ℕ
inputs [] = []
inputs (r ∷ rs) = end_line (bytes r.input) ++ inputs rs

unfoldable pub outputs : List Row → List ℕ
outputs [] = []
outputs (r ∷ rs) = end_line (bytes r.output) ++ outputs rs

-- line by line
unfoldable pub scripts : List (List Row)
scripts =
    -- document 01's own, whole
    ("S 2 0 2" prints "done 2 2 0 0 -"
    ∷ "A 0 2" prints "s0 2 2 0 0 -"
    ∷ "P 0 0" prints "granted 0 0 0 0 0"
    ∷ "A 1 1" prints "s1 0 0 0 0 -"
    ∷ "P 1 1" prints "pending 0 0 0 1 -"
    ∷ "L 0 1" prints "done 0 0 0 0 1"
    ∷ "P 1 1" prints "granted 0 0 0 0 -"
    ∷ [])
    -- every letter and every answer; a number is read whole before it is judged; a refused step prints the whole line
    ∷ ("U 3 - 2" prints "done 3 3 0 0 -"
    ∷ "T 0 2" prints "granted 1 1 0 0 t"
    ∷ "T 0 2" prints "none 1 1 0 0 -"
    ∷ "B 1 4294967295" prints "s0 1 1 0 0 -"
    ∷ "R 1 2 5" prints "s1 1 1 0 0 -"
    ∷ "P 1 0" prints "pending 1 1 0 1 -"
    ∷ "P 1 1" prints "pending 1 1 0 2 -"
    ∷ "U 0 1 3" prints "s2 1 1 0 2 -"
    ∷ "P 0 2" prints "pending 0 1 0 2 -"
    ∷ "V 0 1 2" prints "none 0 1 0 2 -"
    ∷ "L 0 1" prints "done 0 2 0 2 -"
    ∷ "P 0 2" prints "granted 0 0 0 2 2"
    ∷ "D 1 0" prints "r2 0 0 0 2 -"
    ∷ "D 0 0" prints "done 0 0 0 1 -"
    ∷ "L 300 1" prints "r1 0 0 0 1 -"
    ∷ "P 0 300" prints "r3 0 0 0 1 -"
    ∷ "C 0" prints "done 0 0 1 0 -"
    ∷ "T 0 1" prints "closed 0 0 1 0 -"
    ∷ "Z 1" prints "done 0 0 1 0 -"
    ∷ "F 0" prints "done 0 0 1 0 -"
    ∷ "L 1 4294967295" prints "done 4294967295 4294967295 1 0 -"
    ∷ "L 1 1" prints "r10 4294967295 4294967295 1 0 -"
    ∷ [])
    -- a release that grants two requests
    ∷ ("S 0 0 1" prints "done 0 0 0 0 -"
    ∷ "A 0 1" prints "s0 0 0 0 0 -"
    ∷ "A 0 12" prints "s1 0 0 0 0 -"
    ∷ "P 0 0" prints "pending 0 0 0 1 -"
    ∷ "P 0 1" prints "pending 0 0 0 2 -"
    ∷ "L 0 14" prints "done 1 1 0 0 0,1"
    ∷ [])
    -- other lines print `bad` and change nothing
    ∷ ("S 1 0 1" prints "done 1 1 0 0 -"
    ∷ "" prints "bad"
    ∷ "C" prints "bad"
    ∷ "c 0" prints "bad"
    ∷ "CC 0" prints "bad"
    ∷ "X 0" prints "bad"
    ∷ "S 1 0 1" prints "bad"
    ∷ " T 0 1" prints "bad"
    ∷ "T  0 1" prints "bad"
    ∷ "T 0 1 " prints "bad"
    ∷ "T 0" prints "bad"
    ∷ "T 0 1 1" prints "bad"
    ∷ "T 0 01" prints "bad"
    ∷ "T 00 1" prints "bad"
    ∷ "T 0 4294967296" prints "bad"
    ∷ "T 0 -1" prints "bad"
    ∷ "T 0 1x" prints "bad"
    ∷ "R 0 1" prints "bad"
    ∷ "T 0 1" prints "granted 0 0 0 0 t"
    ∷ [])
    ∷ []

-- text by text
unfoldable pub texts : List Row
texts =
    -- empty input prints nothing
    "" prints ""
    -- a bad first line ends the program
    ∷ "\n" prints "bad\n"
    ∷ "A 0 1\nA 0 1\n" prints "bad\n"
    ∷ "S 1 0\nA 0 1\n" prints "bad\n"
    ∷ "S 1 0 1 0 0\nA 0 1\n" prints "bad\n"
    ∷ "S 1 - 2 0 0 0\nA 0 1\n" prints "bad\n"
    ∷ "S 1 - 1 0 \nA 0 1\n" prints "bad\n"
    ∷ "S 1 - 1 00\nA 0 1\n" prints "bad\n"
    ∷ "S 1 - 0 5\nA 0 1\n" prints "bad\n"
    ∷ "S 0 - 2147483649 0\nA 0 1\n" prints "bad\n"
    ∷ "S 1 9 2 0 0 0\nA 0 1\n" prints "bad\n"
    ∷ "S - 0 1\nA 0 1\n" prints "bad\n"
    ∷ "S 4294967296 0 1\nA 0 1\n" prints "bad\n"
    -- a refused first line ends it too
    ∷ "S 1 - 0\nA 0 1\n" prints "r12\n"
    ∷ "S 1 0 17\nA 0 1\n" prints "r12\n"
    ∷ "S 1 2 2\nA 0 1\n" prints "r12\n"
    ∷ "S 1 9 2 0 0 0 0\nA 0 1\n" prints "r12\n"
    ∷ "U 1 300 2\nA 0 1\n" prints "r12\n"
    -- starting clocks
    ∷ "S 1 0 1 1\nT 0 1\n" prints "done 1 1 0 0 -\ngranted 0 0 0 0 t\n"
    ∷ "S 1 - 1 4294967295\nT 0 1\nL 0 1\nL 0 0\n" prints "done 1 1 0 0 -\nr11 1 1 0 0 -\nr11 1 1 0 0 -\ndone 1 1 0 0 -\n"
    -- an unended line
    ∷ "S 1 0 1" prints "bad\n"
    ∷ "S 1 0 1\nA 0 1" prints "done 1 1 0 0 -\nbad\n"
    ∷ "S 4294967295 - 16\n\nA 0 1\n " prints "done 4294967295 4294967295 0 0 -\nbad\ns0 4294967295 4294967295 0 0 -\nbad\n"
    ∷ []

pub worked : (map printed (map inputs scripts) ≡ map outputs scripts)
    × (map (λ (r : Row). printed (bytes r.input)) texts ≡ map (λ (r : Row). bytes r.output) texts)
unfolding scripts texts inputs outputs join tick empty first_batch fresh_tasks fresh_batches fresh refuses12 standing_of standing eat taking take_as take_queued adding all_bypassable direct without verdict grant_queued walk scan wake_each wake_unfair reblock_each reblock poll_reserving poll_plain polling poll_work lowest_free make try_by poll release dropping drop_queued drop_work drop_request empty_queue closing effect_of grounds refusal step start same parts joined_by lines_of all_digits no_leading_zero value_from number_of last_digits digits family rows_of spawned start_by act_of numbers_of step_by outcome_text trace program printed
worked = (refl, refl)
