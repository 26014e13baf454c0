-- The struct that reader and writer share, and the scripts that it stands for with their bodies in one stretch.
use Rattle.std.specs.Prelude.{ℕ, zero, suc, ◌+◌, ◌*◌, ◌≤◌, ◌≡◌, ◌&&◌, cond, List, [], ◌∷◌, leb, ltb, length, get_or, take, drop}
use Rattle.bundle_rules.specs.Bundled.{name_length, most_scripts, contents_length, Entry, Row, bodies, entry_names, entry_sizes}
use Rattle.bundle.specs.declared.Contents.{Contents}

-- n stretches of w bytes
unfoldable pub stretches : ℕ → ℕ → List ℕ → List (List ℕ)
stretches w zero s = []
stretches w (suc n) s = take w s ∷ stretches w n (drop w s)

-- names and lengths; places past the count are no part of them
abbrev pub names_in : Contents → List (List ℕ)
names_in c = stretches name_length c.count c.names

abbrev pub sizes_in : Contents → List ℕ
sizes_in c = take c.count c.lengths

-- CONTENTS AND BODIES STAND FOR SCRIPTS
pub record Holds (c : Contents) (bs : List ℕ) (es : List Entry) : Type 0 where
  pub count : c.count ≡ length es
  pub names : names_in c ≡ entry_names es
  pub sizes : sizes_in c ≡ entry_sizes es
  pub whole : bs ≡ bodies es

unfoldable pub sum_of : List ℕ → ℕ
sum_of [] = 0
sum_of (l ∷ ls) = l + sum_of ls

-- the rows of names and lengths whose bodies stand one behind the other from a place on
unfoldable pub rows_from : ℕ → List (List ℕ) → List ℕ → List Row
rows_from at [] ls = []
rows_from at (m ∷ ms) [] = []
rows_from at (m ∷ ms) (l ∷ ls) = record { name = m; offset = at; size = l } ∷ rows_from (at + l) ms ls

-- those of n scripts, by their names one behind the other and their lengths
abbrev pub rows_said : ℕ → List ℕ → List ℕ → List Row
rows_said n ms ls = rows_from (contents_length n) (stretches name_length n ms) (take n ls)

-- where the last of their bodies ends
abbrev pub end_of : ℕ → List ℕ → ℕ
end_of n ls = contents_length n + sum_of (take n ls)

-- n names and lengths, whose bodies end by a place
pub record Lent (ms ls : List ℕ) (n end : ℕ) : Type 0 where
  pub few : n ≤ most_scripts
  pub named : name_length * n ≤ length ms
  pub sized : n ≤ length ls
  pub ends : end_of n ls ≤ end

-- r is the sum of the first n, which fits 64 bits
pub record Sums (ls : List ℕ) (n r : ℕ) : Type 0 where
  pub value : r ≡ sum_of (take n ls)
  pub bound : r ≤ 4294967296 * n

-- where the body of script i stands in a bundle: behind the contents and the bodies before it
abbrev pub start_of : Contents → ℕ → ℕ
start_of c i = contents_length c.count + sum_of (take i c.lengths)

-- a part of the bundle, or nothing where there is no such script or the bundle ends before it
unfoldable pub body_at : Contents → List ℕ → ℕ → List ℕ
body_at c s i =
    cond (ltb i c.count && leb c.count most_scripts && leb (start_of c i + get_or c.lengths i 0) (length s))
    (take (get_or c.lengths i 0) (drop (start_of c i) s)) []
