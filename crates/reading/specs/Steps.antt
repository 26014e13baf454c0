-- What a line was read to say.
use Rattle.std.specs.Prelude.{ℕ, ◌+◌, ◌-◌, ◌≤◌, ◌<◌, ◌≡◌, cond, List, ◌∷◌, length, take, drop}
use Rattle.rules.specs.Text.{Line, lines}
use Rattle.rules.specs.Script.{said, step_of}
use Rattle.script.specs.Saying.{within as named}
use Rattle.reading.specs.declared.ReadLine.{ReadLine}

-- how many bytes of a script a line takes, its line feed counted
abbrev pub line_bytes : Line → ℕ
line_bytes l = length l.content + cond l.ended 1 0

-- the bytes from a place to the line feed at e
pub record SaysTo (script : List ℕ) (at e : ℕ) (r : ReadLine) : Type 0 where
  pub step : r.said ≡ named (step_of (take (e - at) (drop at script)))
  pub next : r.next ≡ e + 1

-- The line that starts at a place: the step that it says, named within a byte, and where the next one starts.
pub record SaysAt (script : List ℕ) (at : ℕ) (r : ReadLine) : Type 0 where
  pub line : Line
  pub shows : lines (drop at script) ≡ line ∷ lines (drop r.next script)
  pub step : r.said ≡ named (said step_of line)
  pub bytes : r.next ≡ at + line_bytes line
  pub on : at < r.next
  pub within : r.next ≤ length script
