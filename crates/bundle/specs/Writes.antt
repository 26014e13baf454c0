-- What the writer writes, and answers.
use Rattle.std.specs.Prelude.{ℕ, ◌+◌, ◌*◌, ◌<◌, ◌≡◌, Bool, true, false, cond, not, ◌&&◌, List, ◌++◌, eqb, leb, ltb, length, drop, Option, None, Some, Result, Ok, Err}
use Rattle.bundle_rules.specs.declared.Refusal.{Refusal}
use Rattle.bundle_rules.specs.declared.Refusal.TheVariants.{CutShort, TooMany, BadName, BadBodies}
use Rattle.bundle_rules.specs.Bundled.{name_length, most_scripts, longest, contents_length, bundled, well_named}
use Rattle.bundle_rules.specs.Reading.{Answer, refused, holds, or_refused, entries_of}
use Rattle.bundle.specs.declared.Contents.{Contents}
use Rattle.bundle.specs.Contents.{names_in, sizes_in, sum_of}

-- the whole's length, where the lengths add up to the bodies
abbrev pub whole_length : Contents → List ℕ → ℕ
whole_length c bs = contents_length c.count + length bs

-- lengths that do not add up to the bodies, or a whole that is too long
abbrev pub bad_lengths : Contents → List ℕ → Bool
bad_lengths c bs = not (eqb (sum_of (sizes_in c)) (length bs) && leb (whole_length c bs) longest)

-- whether a refusal's ground holds, with a buffer of `room` bytes
abbrev pub ground_against : Refusal → Contents → List ℕ → ℕ → Bool
ground_against TooMany c bs room = ltb most_scripts c.count
ground_against BadName c bs room = not (well_named (names_in c))
ground_against BadBodies c bs room = bad_lengths c bs
ground_against CutShort c bs room = ltb room (whole_length c bs)

-- the writer's order: 21, 22, 23 and then 20
unfoldable pub ground_to_write : Contents → List ℕ → ℕ → Option Refusal
ground_to_write c bs room =
    cond (ground_against TooMany c bs room) (Some TooMany)
    (cond (ground_against BadName c bs room) (Some BadName)
    (cond (ground_against BadBodies c bs room) (Some BadBodies)
    (cond (ground_against CutShort c bs room) (Some CutShort) None)))

abbrev pub turn_of : Refusal → ℕ
turn_of TooMany = 1
turn_of BadName = 2
turn_of BadBodies = 3
turn_of CutShort = 4

-- the same in words: a refusal's ground holds, and none whose turn is before
pub record FirstAgainst (c : Contents) (bs : List ℕ) (room : ℕ) (g : Refusal) : Type 0 where
  pub given : ground_against g c bs room ≡ true
  pub first : (h : Refusal) → turn_of h < turn_of g → ground_against h c bs room ≡ false

-- WHAT IS WRITTEN for contents and bodies
unfoldable pub write_as : Contents → List ℕ → ℕ → Answer
write_as c bs room = or_refused (ground_to_write c bs room) (entries_of (names_in c) (sizes_in c) bs)

-- on a refusal not a byte of the buffer changes, and behind the bundle it stays as it was
abbrev pub Leaves : List ℕ → List ℕ → Result ℕ Refusal → Answer → Type 0
Leaves old new r (refused g) = (r ≡ Err g) × (new ≡ old)
Leaves old new r (holds es) = (r ≡ Ok (length (bundled es))) × (new ≡ bundled es ++ drop (length (bundled es)) old)

-- the arrays have their lengths, as any handed in have
pub record Arrays (c : Contents) : Type 0 where
  pub names : length c.names ≡ name_length * most_scripts
  pub lengths : length c.lengths ≡ most_scripts

-- THE WRITER'S CONTRACT
pub record Writes (c : Contents) (bs old new : List ℕ) (r : Result ℕ Refusal) : Type 0 where
  pub leaves : Leaves old new r (write_as c bs (length old))
  pub arrays : Arrays c
