-- What the parts of the writer are lent, and write.
use Rattle.std.specs.Prelude.{ℕ, ◌+◌, ◌≤◌, ◌≡◌, List, ◌++◌, length}
use Rattle.text.specs.Writing.{Appended}
use Rattle.bundle_rules.specs.Numbers.{bytes_of, number_length}
use Rattle.bundle_rules.specs.Bundled.{longest, contents_length, table_bytes}
use Rattle.bundle.specs.Contents.{rows_said, Lent}

-- the rows of n names and lengths, as bytes
abbrev pub rows_bytes : ℕ → List ℕ → List ℕ → List ℕ
rows_bytes n ms ls = table_bytes (rows_said n ms ls)

-- what makes a bundle that is short enough, and room for the whole
pub record LentWhole (ms ls : List ℕ) (n : ℕ) (bs : List ℕ) (room : ℕ) : Type 0 where
  pub rows : Lent ms ls n longest
  pub whole : contents_length n + length bs ≤ room

pub record RowsPut (old ms ls : List ℕ) (n : ℕ) (new : List ℕ) (r : ℕ) : Type 0 where
  pub end : r ≡ contents_length n
  pub rows : Appended old number_length (rows_bytes n ms ls) new r

abbrev pub BundlePut : List ℕ → List ℕ → List ℕ → ℕ → List ℕ → List ℕ → ℕ → Type 0
BundlePut old ms ls n bs new r = Appended old 0 (bytes_of number_length n ++ (rows_bytes n ms ls ++ bs)) new r
