-- Inside: where what is printed is placed, and how much of the buffer it takes.
use Rattle.std.specs.Prelude.{ℕ, ◌+◌, ◌≤◌, List, map, length, take, drop}
use Rattle.trace.specs.Running.{room}
use Rattle.bundle_rules.specs.Bundled.{name_length, most_scripts, Entry, Row}
use Rattle.bundle.specs.declared.Contents.{Contents}
use Rattle.bundle.specs.Contents.{rows_said, end_of}
use Rattle.bundle_jobs.specs.Printed.{heading_text, scripts_text}

-- room for a script's heading and what it prints
abbrev pub script_room : List ℕ → List ℕ → ℕ
script_room name body = length (heading_text name) + room body

-- room for a heading or a line of the list: a name, separators, and numbers of at most ten digits
abbrev pub row_room : ℕ
row_room = name_length + 23

-- the rows of contents
abbrev pub rows_in : Contents → List Row
rows_in c = rows_said c.count c.names c.lengths

-- contents that the reader answers: few, and their bodies end by a place
pub record EndsBy (c : Contents) (end : ℕ) : Type 0 where
  pub few : c.count ≤ most_scripts
  pub ends : end_of c.count c.lengths ≤ end

-- the script that a row says, with the part of the bundle where it stands
abbrev pub script_at : List ℕ → Row → Entry
script_at s r = record { name = r.name; body = take r.size (drop r.offset s) }

abbrev pub scripts_at : List ℕ → List Row → List ℕ
scripts_at s rs = scripts_text (map (script_at s) rs)
