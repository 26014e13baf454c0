-- What a first line was read to say.
use Rattle.std.specs.Prelude.{ℕ, ◌*◌, ◌≤◌, ◌<◌, ◌≡◌, cond, List, [], ◌∷◌, ltb, length, take, drop, Option, None, Some}
use Rattle.rules.specs.Sizes.{max_tasks}
use Rattle.rules.specs.Fresh.{Start}
use Rattle.rules.specs.Runs.{start as begun}
use Rattle.rules.specs.Text.{fields, Line, lines}
use Rattle.rules.specs.Script.{said, start_of, numbers_of}
use Rattle.script.specs.declared.First.{First}
use Rattle.script.specs.Opening.{start_said}
use Rattle.reading.specs.declared.FirstLine.{FirstLine}
use Rattle.reading.specs.declared.FirstLine.TheVariants.{Is, Bad, Nothing}
use Rattle.reading.specs.Steps.{line_bytes}

-- how many entries the clocks of n tasks have; none where 12 refuses so many tasks whatever their clocks
abbrev pub entries_of : ℕ → ℕ
entries_of n = cond (ltb max_tasks n) 0 (n * n)

-- the start that was read, with the clocks that stand in words
abbrev pub start_read : First → List ℕ → Start
start_read a starts = start_said a (take (entries_of a.tasks) starts)

-- A start was read: what is begun with it, 12 or a fresh state, is what is begun with the one that was said, o.
pub record ReadsStart (o : Option Start) (first : First) (starts : List ℕ) : Type 0 where
  pub start : Start
  pub says : o ≡ Some start
  pub same : begun (start_read first starts) ≡ begun start
  pub sized : length starts ≡ 256

abbrev pub SaysStart : Option Start → ℕ → FirstLine → List ℕ → Type 0
SaysStart o next (Is first next') starts = (next' ≡ next) × ReadsStart o first starts
SaysStart o next Bad starts = o ≡ None
SaysStart o next Nothing starts = ⊥

-- The first line of a script, where it has one.
pub record StartAt (script : List ℕ) (first : First) (next : ℕ) (starts : List ℕ) : Type 0 where
  pub line : Line
  pub shows : lines script ≡ line ∷ lines (drop next script)
  pub read : ReadsStart (said start_of line) first starts
  pub bytes : next ≡ line_bytes line
  pub within : next ≤ length script

pub record BadAt (script : List ℕ) : Type 0 where
  pub line : Line
  pub behind : List Line
  pub shows : lines script ≡ line ∷ behind
  pub says : said start_of line ≡ None
  pub some_bytes : 0 < length script

abbrev pub SaysFirst : List ℕ → FirstLine → List ℕ → Type 0
SaysFirst script (Is first next) starts = StartAt script first next starts
SaysFirst script Bad starts = BadAt script
SaysFirst script Nothing starts = lines script ≡ []

-- The numbers of some fields were read, n of them, and those for which there is room stand in words.
pub record Reads (o : Option (List ℕ)) (n : ℕ) (starts : List ℕ) : Type 0 where
  pub numbers : List ℕ
  pub says : o ≡ Some numbers
  pub count : n ≡ length numbers
  pub some_there : 0 < n
  pub kept : n ≤ 256 → take n starts ≡ numbers
  pub sized : length starts ≡ 256

abbrev pub ClocksTo : List ℕ → ℕ → Option ℕ → List ℕ → Type 0
ClocksTo line from (Some n) starts = Reads (numbers_of (fields (drop from line))) n starts
ClocksTo line from None starts = numbers_of (fields (drop from line)) ≡ None
