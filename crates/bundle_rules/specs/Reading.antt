-- Document 02, No. 1: what some bytes are as a bundle, or why they are none.
use Rattle.std.specs.Prelude.{ℕ, zero, suc, ◌+◌, ◌<◌, ◌≡◌, Bool, true, false, cond, not, ◌&&◌, List, [], ◌∷◌, eqb, leb, ltb, length, take, drop, Option, None, Some}
use Rattle.bundle_rules.specs.declared.Refusal.{Refusal}
use Rattle.bundle_rules.specs.declared.Refusal.TheVariants.{CutShort, TooMany, BadName, BadBodies}
use Rattle.bundle_rules.specs.Numbers.{value_of, number_length}
use Rattle.bundle_rules.specs.Bundled.{name_length, most_scripts, longest, row_length, unmarked, contents_length, Entry, Row, well_named}

abbrev pub number_of : Refusal → ℕ
number_of CutShort = 20
number_of TooMany = 21
number_of BadName = 22
number_of BadBodies = 23

-- What the contents say.

abbrev pub count_of : List ℕ → ℕ
count_of s = value_of (take number_length s)

-- the row that some bytes begin with
abbrev pub row_of : List ℕ → Row
row_of s =
    record {
      name = take name_length s;
      offset = value_of (take number_length (drop name_length s));
      size = value_of (take number_length (drop (name_length + number_length) s));
    }

-- the n rows that some bytes begin with
unfoldable pub rows_of : ℕ → List ℕ → List Row
rows_of zero s = []
rows_of (suc n) s = row_of s ∷ rows_of n (drop (row_length unmarked) s)

abbrev pub contents : List ℕ → List Row
contents s = rows_of (count_of s) (drop number_length s)

unfoldable pub names_of : List Row → List (List ℕ)
names_of [] = []
names_of (r ∷ rs) = r.name ∷ names_of rs

unfoldable pub sizes_of : List Row → List ℕ
sizes_of [] = []
sizes_of (r ∷ rs) = r.size ∷ sizes_of rs

-- scripts by their names, their lengths and their bodies in one stretch
unfoldable pub entries_of : List (List ℕ) → List ℕ → List ℕ → List Entry
entries_of [] ls bs = []
entries_of (m ∷ ms) [] bs = []
entries_of (m ∷ ms) (l ∷ ls) bs = record { name = m; body = take l bs } ∷ entries_of ms ls (drop l bs)

-- The four grounds, on the bytes s that a bundle of n bytes begins with.

-- 20: contents cut short, the whole table
abbrev pub cut_short : List ℕ → ℕ → Bool
cut_short s n = ltb n (contents_length (count_of s))

-- 21
abbrev pub too_many : List ℕ → Bool
too_many s = ltb most_scripts (count_of s)

-- 22
abbrev pub bad_name : List ℕ → Bool
bad_name s = not (well_named (names_of (contents s)))

-- the bodies stand one behind the other from a place on, up to the end
unfoldable pub in_order : ℕ → List Row → ℕ → Bool
in_order at [] end = eqb at end
in_order at (r ∷ rs) end = eqb r.offset at && in_order (at + r.size) rs end

-- 23: bodies overlap, leave a gap, overrun or end before the bundle does, or the whole is too long
abbrev pub bad_bodies : List ℕ → ℕ → Bool
bad_bodies s n = not (in_order (contents_length (count_of s)) (contents s) n && leb n longest)

-- whether a refusal's ground holds
abbrev pub ground : Refusal → List ℕ → ℕ → Bool
ground CutShort s n = cut_short s n
ground TooMany s n = too_many s
ground BadName s n = bad_name s
ground BadBodies s n = bad_bodies s n

-- checked in that order
unfoldable pub ground_of : List ℕ → ℕ → Option Refusal
ground_of s n =
    cond (cut_short s n) (Some CutShort)
    (cond (too_many s) (Some TooMany)
    (cond (bad_name s) (Some BadName)
    (cond (bad_bodies s n) (Some BadBodies) None)))

-- the same in words: a refusal's ground holds, and none of a lower number does
pub record FirstGround (s : List ℕ) (n : ℕ) (g : Refusal) : Type 0 where
  pub given : ground g s n ≡ true
  pub first : (h : Refusal) → number_of h < number_of g → ground h s n ≡ false

-- A refusal, or the scripts.
pub data Answer : Type 0 where
  refused : Refusal → Answer
  holds : List Entry → Answer

abbrev pub or_refused : Option Refusal → List Entry → Answer
or_refused None es = holds es
or_refused (Some g) es = refused g

abbrev pub entries_in : List ℕ → List Entry
entries_in s = entries_of (names_of (contents s)) (sizes_of (contents s)) (drop (contents_length (count_of s)) s)

-- WHAT SOME BYTES ARE AS A BUNDLE
unfoldable pub read_as : List ℕ → Answer
read_as s = or_refused (ground_of s (length s)) (entries_in s)
