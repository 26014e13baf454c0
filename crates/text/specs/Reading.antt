-- What the readers answer, as the rules see it.
use Rattle.std.specs.Prelude.{ℕ, ◌+◌, ◌-◌, ◌≤◌, ◌<◌, ◌≡◌, true, false, cond, ◌&&◌, List, [], ◌∷◌, leb, length, take, drop, Option, None, Some}
use Rattle.rules.specs.Sizes.{largest}
use Rattle.rules.specs.Text.{space, before, fields, Line, lines, all_digits, value_from, number_of}
use Rattle.text.specs.declared.Reading.{Reading}
use Rattle.text.specs.declared.Reading.TheVariants.{Last, Then}
use Rattle.text.specs.declared.NextLine.{NextLine}
use Rattle.text.specs.declared.NextLine.TheVariants.{Ended, Unended, End}

-- r is the place of the first b at `from` or after it, or the end
pub record Found (s : List ℕ) (from b r : ℕ) : Type 0 where
  pub place : r ≡ from + length (before b (drop from s))
  pub within : r ≤ length s

-- the byte of a field of one byte, or 0
unfoldable pub letter_of : List ℕ → ℕ
letter_of [] = 0
letter_of (c ∷ []) = c
letter_of (c ∷ d ∷ cs) = 0

-- the number that digits say, behind those that say n
unfoldable pub number_from : ℕ → List ℕ → Option ℕ
number_from n f = cond (all_digits f && leb (value_from n f) largest) (Some (value_from n f)) None

-- the number that was read
abbrev pub number_read : Option Reading → Option ℕ
number_read (Some (Last n)) = Some n
number_read (Some (Then n next)) = Some n
number_read None = None

-- the fields from a place on: the one that was read, and those behind it
abbrev pub Behind : List ℕ → ℕ → Option Reading → Type 0
Behind line at (Some (Last n)) = fields (drop at line) ≡ before space (drop at line) ∷ []
Behind line at (Some (Then n next)) = (fields (drop at line) ≡ before space (drop at line) ∷ fields (drop next line)) × (next ≤ length line)
Behind line at None = Unit {0}

pub record ReadAt (line : List ℕ) (at : ℕ) (r : Option Reading) : Type 0 where
  pub says : number_of (before space (drop at line)) ≡ number_read r
  pub behind : Behind line at r

-- the lines of a script that begin with what was found
abbrev pub lines_from : List ℕ → ℕ → NextLine → List Line
lines_from s at (Ended e) = record { content = take (e - at) (drop at s); ended = true } ∷ lines (drop (e + 1) s)
lines_from s at Unended = record { content = drop at s; ended = false } ∷ []
lines_from s at End = []

-- a line feed lies within the script, and not before the line that it ends
abbrev pub Within : List ℕ → ℕ → NextLine → Type 0
Within s at (Ended e) = (at ≤ e) × (e < length s)
Within s at Unended = at < length s
Within s at End = length s ≤ at

pub record NextIs (s : List ℕ) (at : ℕ) (r : NextLine) : Type 0 where
  pub shows : lines (drop at s) ≡ lines_from s at r
  pub within : Within s at r
