-- Document 02, No. 1: some scripts as the bytes of a bundle.
use Rattle.std.specs.Prelude.{ℕ, ◌+◌, ◌*◌, ◌≤◌, ◌≡◌, Bool, true, ◌&&◌, List, [], ◌∷◌, ◌++◌, eqb, leb, length, drop}
use Rattle.rules.specs.Text.{before}
use Rattle.bundle_rules.specs.Numbers.{bytes_of, number_length}

-- Sizes.

-- a name is padded with zero bytes to so many
abbrev pub name_length : ℕ
name_length = 16

abbrev pub most_scripts : ℕ
most_scripts = 256

-- the whole
abbrev pub longest : ℕ
longest = 65536

-- how a row of the contents is made
pub data Form : Type 0 where
  unmarked : Form

-- name, offset and length
abbrev pub row_length : Form → ℕ
row_length unmarked = name_length + number_length + number_length

-- the contents of n scripts: the count, and a row for each
abbrev pub contents_length : ℕ → ℕ
contents_length n = number_length + row_length unmarked * n

-- A BUNDLE AS A VALUE: scripts, each a name as its 16 bytes and a body.
pub record Entry : Type 0 where
  pub name : List ℕ
  pub body : List ℕ

-- a row of the contents
pub record Row : Type 0 where
  pub name : List ℕ
  pub offset : ℕ
  pub size : ℕ

abbrev pub row_bytes : Row → List ℕ
row_bytes r = r.name ++ (bytes_of number_length r.offset ++ bytes_of number_length r.size)

unfoldable pub table_bytes : List Row → List ℕ
table_bytes [] = []
table_bytes (r ∷ rs) = row_bytes r ++ table_bytes rs

-- the rows of scripts whose bodies stand one behind the other from a place on
unfoldable pub placed : ℕ → List Entry → List Row
placed at [] = []
placed at (e ∷ es) = record { name = e.name; offset = at; size = length e.body } ∷ placed (at + length e.body) es

-- the bodies in that order with no gaps
unfoldable pub bodies : List Entry → List ℕ
bodies [] = []
bodies (e ∷ es) = e.body ++ bodies es

-- THE BYTES OF A BUNDLE: count, contents, bodies
abbrev pub bundled : List Entry → List ℕ
bundled es =
    bytes_of number_length (length es) ++ (table_bytes (placed (contents_length (length es)) es) ++ bodies es)

-- Names.

-- zero bytes and nothing else
unfoldable pub zeros : List ℕ → Bool
zeros [] = true
zeros (b ∷ bs) = eqb b 0 && zeros bs

-- it does not start with a zero byte, and no other byte stands after a zero
abbrev pub well_made : List ℕ → Bool
well_made m = leb 1 (length (before 0 m)) && zeros (drop (length (before 0 m)) m)

unfoldable pub well_named : List (List ℕ) → Bool
well_named [] = true
well_named (m ∷ ms) = well_made m && well_named ms

-- each of 16 bytes
unfoldable pub full_names : List (List ℕ) → Bool
full_names [] = true
full_names (m ∷ ms) = eqb (length m) name_length && full_names ms

unfoldable pub entry_names : List Entry → List (List ℕ)
entry_names [] = []
entry_names (e ∷ es) = e.name ∷ entry_names es

unfoldable pub entry_sizes : List Entry → List ℕ
entry_sizes [] = []
entry_sizes (e ∷ es) = length e.body ∷ entry_sizes es

-- WHAT CAN BE BUNDLED: few enough, well named, and short enough as a whole
pub record Fits (es : List Entry) : Type 0 where
  pub few : length es ≤ most_scripts
  pub full : full_names (entry_names es) ≡ true
  pub named : well_named (entry_names es) ≡ true
  pub short : length (bundled es) ≤ longest
