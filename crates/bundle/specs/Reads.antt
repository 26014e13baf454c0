-- What the reader answers.
use Rattle.std.specs.Prelude.{ℕ, ◌+◌, ◌≤◌, ◌<◌, ◌≡◌, List, ◌++◌, length, drop, Option, None, Some, Result, Ok, Err}
use Rattle.bundle_rules.specs.declared.Refusal.{Refusal}
use Rattle.bundle_rules.specs.declared.Refusal.TheVariants.{CutShort}
use Rattle.bundle_rules.specs.Bundled.{most_scripts, longest, contents_length, Entry, bundled}
use Rattle.bundle_rules.specs.Reading.{count_of, contents, names_of, sizes_of, ground_of, Answer, refused, holds, read_as}
use Rattle.bundle.specs.declared.Contents.{Contents}
use Rattle.bundle.specs.Contents.{names_in, sizes_in, Holds}

abbrev pub Tells : Result Contents Refusal → List ℕ → Answer → Type 0
Tells r s (refused g) = r ≡ Err g
Tells r s (holds es) = (c : Contents) × (r ≡ Ok c) × Holds c (drop (contents_length (length es)) s) es

-- THE READER'S CONTRACT: it tells what the bytes are, and bytes that hold scripts are those scripts bundled
pub record Reads (s : List ℕ) (r : Result Contents Refusal) : Type 0 where
  pub tells : Tells r s (read_as s)
  pub bundle : (es : List Entry) → read_as s ≡ holds es → s ≡ bundled es

-- of a bundle of which the first bytes are kept and the others counted: they are enough to tell, or too few are kept
pub record ReadsCounted (kept : List ℕ) (more : ℕ) (r : Result Contents Refusal) : Type 0 where
  pub whole : more ≡ 0 → Reads kept r
  pub first : 0 < more → longest ≤ length kept → (rest : List ℕ) → length rest ≡ more → Reads (kept ++ rest) r
  pub few : 0 < more → length kept < longest → r ≡ Err CutShort

-- Inside: what the bytes s tell of a bundle that begins with them and has so many more.

-- the contents as they stand in the bytes
pub record Taken (c : Contents) (s : List ℕ) : Type 0 where
  pub count : c.count ≡ count_of s
  pub names : names_in c ≡ names_of (contents s)
  pub sizes : sizes_in c ≡ sizes_of (contents s)

abbrev pub Judged : Result Contents Refusal → List ℕ → Option Refusal → Type 0
Judged r s (Some g) = r ≡ Err g
Judged r s None = (c : Contents) × (r ≡ Ok c) × Taken c s

pub record Judges (s : List ℕ) (more : ℕ) (r : Result Contents Refusal) : Type 0 where
  pub says : Judged r s (ground_of s (length s + more))

-- where some are not kept, the whole is too long
pub record Enough (s : List ℕ) (more : ℕ) : Type 0 where
  pub long : 0 < more → longest ≤ length s

-- and a whole table of n rows stands in those that are
pub record Whole (s : List ℕ) (n more : ℕ) : Type 0 where
  pub count : n ≡ count_of s
  pub few : n ≤ most_scripts
  pub table : contents_length n ≤ length s
  pub enough : Enough s more
