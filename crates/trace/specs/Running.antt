-- What a script's run has printed and left, line by line.
use Rattle.std.specs.Prelude.{ℕ, ◌+◌, ◌*◌, ◌≤◌, ◌<◌, ◌≡◌, List, ◌++◌, length, take, drop}
use Rattle.rules.specs.State.{State}
use Rattle.rules.specs.Steps.{quiet}
use Rattle.rules.specs.Steps.Answer.{done}
use Rattle.rules.specs.Text.{lines}
use Rattle.rules.specs.Script.{outcome_text, trace, printed, byte_room}
use Rattle.text.specs.Writing.{Appended}

abbrev pub room : List ℕ → ℕ
room script = byte_room * length script

-- From one place of a script and of the buffer on to another: the lines between are printed, and what is left to print is left.
pub record Onward (script : List ℕ) (at : ℕ) (s : State) (old : List ℕ) (n at' : ℕ) (s' : State) (new : List ℕ) (n' : ℕ) : Type 0 where
  pub text : List ℕ
  pub printed : Appended old n text new n'
  pub fits : n + length (trace s (lines (drop at script))) ≤ length old
  pub left : text ++ trace s' (lines (drop at' script)) ≡ trace s (lines (drop at script))

-- the first line that an accepted start prints
abbrev pub first_of : State → List ℕ
first_of s = outcome_text (quiet done s)

-- WHAT IS PRINTED for a script's bytes: with `byte_room` bytes of room for each of them the buffer is the text and, behind it, as it was; with
-- less, nothing is written. (The last two follow from the others; a caller that writes `&out[..r]` finds them so.)
pub record Prints (script old out : List ℕ) (r : ℕ) : Type 0 where
  pub text : room script ≤ length old → out ≡ printed script ++ drop r old
  pub count : room script ≤ length old → r ≡ length (printed script)
  pub short : length old < room script → (r ≡ 0) × (out ≡ old)
  pub fits : r ≤ length out
  pub counted : r ≡ length (take r out)
