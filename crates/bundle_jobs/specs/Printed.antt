-- What is printed for a bundle: its scripts run, or its contents listed.
use Rattle.std.specs.Prelude.{ℕ, suc, ◌*◌, ◌≤◌, ◌<◌, ◌≡◌, List, [], ◌∷◌, ◌++◌, length, take, drop}
use Rattle.rules.specs.Text.{bytes, space, before, digits}
use Rattle.rules.specs.Script.{end_line, printed, byte_room}
use Rattle.bundle_rules.specs.declared.Refusal.{Refusal}
use Rattle.bundle_rules.specs.declared.Refusal.TheVariants.{CutShort}
use Rattle.bundle_rules.specs.Bundled.{longest, contents_length, Entry, Row, placed}
use Rattle.bundle_rules.specs.Reading.{number_of, Answer, refused, holds, read_as}
use Rattle.bundle_jobs.specs.declared.Job.{Job}
use Rattle.bundle_jobs.specs.declared.Job.TheVariants.{Run, List as Listed}

-- a name without the zero bytes behind it
abbrev pub name_text : List ℕ → List ℕ
name_text m = before 0 m

-- a refused bundle: `r` and its number, alone
abbrev pub refusal_text : Refusal → List ℕ
refusal_text g = end_line (bytes "r" ++ digits (number_of g))

-- a line `> NAME`
abbrev pub heading_text : List ℕ → List ℕ
heading_text m = end_line (bytes "> " ++ name_text m)

-- for each script in order its heading, and then what `semtrace` prints for it
unfoldable pub scripts_text : List Entry → List ℕ
scripts_text [] = []
scripts_text (e ∷ es) = heading_text e.name ++ printed e.body ++ scripts_text es

-- a number behind a space
abbrev pub field_text : ℕ → List ℕ
field_text n = space ∷ digits n

-- a line for each script: name, offset, length
abbrev pub row_text : Row → List ℕ
row_text r = end_line (name_text r.name ++ field_text r.offset ++ field_text r.size)

unfoldable pub rows_text : List Row → List ℕ
rows_text [] = []
rows_text (r ∷ rs) = row_text r ++ rows_text rs

-- WHAT `--bundle` PRINTS, by what the bundle is
abbrev pub run_text : Answer → List ℕ
run_text (refused g) = refusal_text g
run_text (holds es) = scripts_text es

-- WHAT `--list` PRINTS
abbrev pub list_text : Answer → List ℕ
list_text (refused g) = refusal_text g
list_text (holds es) = rows_text (placed (contents_length (length es)) es)

-- what is printed by what is done
abbrev pub text_for : Job → Answer → List ℕ
text_for Run a = run_text a
text_for Listed a = list_text a

-- so much room is enough: a row of the contents has room for its heading, a body for what it prints, and one byte more for a refusal
abbrev pub room_for : List ℕ → ℕ
room_for s = byte_room * suc (length s)

-- the others of a bundle, of which the bytes `kept` are handed in and `more` stand behind them: none, or the first 65,536 are kept
pub record Behind (kept : List ℕ) (more : ℕ) (rest : List ℕ) : Type 0 where
  pub number : length rest ≡ more
  pub enough : 0 < more → longest ≤ length kept

-- WHAT IS PRINTED for such a bundle, whatever the others are: with room the buffer is the text and, behind it, as it was; with less,
-- nothing is written. Of one of which too few bytes are kept it is 20. (The last two follow from the others; a caller that writes
-- `&out[..r]` finds them so.)
pub record PrintsFor (text_of : Answer → List ℕ) (kept : List ℕ) (more : ℕ) (old out : List ℕ) (r : ℕ) : Type 0 where
  pub text : room_for kept ≤ length old → (rest : List ℕ) → Behind kept more rest → out ≡ text_of (read_as (kept ++ rest)) ++ drop r old
  pub count : room_for kept ≤ length old → (rest : List ℕ) → Behind kept more rest → r ≡ length (text_of (read_as (kept ++ rest)))
  pub few : room_for kept ≤ length old → 0 < more → length kept < longest
      → (out ≡ text_of (refused CutShort) ++ drop r old) × (r ≡ length (text_of (refused CutShort)))
  pub short : length old < room_for kept → (r ≡ 0) × (out ≡ old)
  pub fits : r ≤ length out
  pub counted : r ≡ length (take r out)
