-- The rows that names and lengths say, one after the other; and those of scripts.
use Prim.Native.Nat.{ℕ, suc, ◌+◌, ◌*◌, ◌-◌, ◌≤◌, ◌<◌}
use native.Mathlib.Numerals.{add-one}
use native.Mathlib.Omega.{arith}
use mathlib.Core.Path.{◌≡◌, refl, ap, ◌∙◌}
use mathlib.Core.List.{List, [], ◌∷◌, ◌++◌}
use lib.ListN.{length, get_or, take, drop}
use lib.Seq.{drop-cons, drop-drop}
use Rattle.bundle_rules.specs.Numbers.{bytes_of, number_length}
use Rattle.bundle_rules.specs.Bundled.{name_length, contents_length, Entry, Row, table_bytes, placed, bodies, bundled, entry_names, entry_sizes}
use Rattle.bundle.specs.declared.Contents.{Contents}
use Rattle.bundle.specs.Contents.{stretches, Holds, sum_of, rows_from, rows_said, end_of}
use Rattle.bundle.proofs.Entries.{sizes-sum}

-- lengths that are left behind the first i
abbrev pub sizes_left : List ℕ → ℕ → ℕ → List ℕ
sizes_left ls n i = take (n - i) (drop i ls)

-- the rows that are left, the next body standing at `at`
abbrev pub rows_left : List ℕ → List ℕ → ℕ → ℕ → ℕ → List Row
rows_left ms ls n at i = rows_from at (stretches name_length (n - i) (drop (name_length * i) ms)) (sizes_left ls n i)

-- and the next of them
abbrev pub row_at : List ℕ → List ℕ → ℕ → ℕ → Row
row_at ms ls at i = record { name = take name_length (drop (name_length * i) ms); offset = at; size = get_or ls i 0 }

module _ (ls : List ℕ) (n i : ℕ) (h : i < n) (sized : n ≤ length ls) where
  one_less : n - i ≡ suc (n - (i + 1))
  one_less = omega arith

  lengths-next : drop i ls ≡ get_or ls i 0 ∷ drop (i + 1) ls
  lengths-next = rw add-one (drop-cons ls i 0 (omega arith))

  pub sum_left : sum_of (sizes_left ls n i) ≡ get_or ls i 0 + sum_of (sizes_left ls n (i + 1))
  unfolding sum_of
  sum_left = rw (one_less, lengths-next)

  pub rows_left_lem : (ms : List ℕ) (at : ℕ) → rows_left ms ls n at i ≡ row_at ms ls at i ∷ rows_left ms ls n (at + get_or ls i 0) (i + 1)
  unfolding rows_from stretches
  rows_left_lem ms at =
      let names-next : drop name_length (drop (name_length * i) ms) ≡ drop (name_length * (i + 1)) ms =
      drop-drop name_length (name_length * i) ms ∙ ap (λ (k : ℕ). drop k ms) {x = name_length * i + name_length} {y = name_length * (i + 1)} (omega arith) in
      rw (one_less, lengths-next, names-next)

pub none_left : (ms ls : List ℕ) (n at i : ℕ) → n ≤ i → rows_left ms ls n at i ≡ []
unfolding rows_from stretches
none_left ms ls n at i h = let z : n - i ≡ 0 = omega arith in rw z

-- names and lengths of scripts say their rows
rows-placed : (at : ℕ) (es : List Entry) → rows_from at (entry_names es) (entry_sizes es) ≡ placed at es
unfolding rows_from placed entry_names entry_sizes
rows-placed at [] = refl
rows-placed at (e ∷ es) =
    ap (λ (rs : List Row). record { name = e.name; offset = at; size = length e.body } ∷ rs) (rows-placed (at + length e.body) es)

-- CONTENTS THAT HOLD SCRIPTS say their rows, end with the last body, and are with the bodies the bytes of their bundle.
module _ {c : Contents} {bs : List ℕ} {es : List Entry} (h : Holds c bs es) where
  pub rows-held : rows_said c.count c.names c.lengths ≡ placed (contents_length (length es)) es
  rows-held = (λ i. rows_from (contents_length (h.count i)) (h.names i) (h.sizes i)) ∙ rows-placed (contents_length (length es)) es

  pub end-held : end_of c.count c.lengths ≡ contents_length (length es) + length (bodies es)
  end-held = (λ i. contents_length (h.count i) + sum_of (h.sizes i)) ∙ ap (λ (k : ℕ). contents_length (length es) + k) (sizes-sum es)

  pub bytes-held : bytes_of number_length c.count ++ (table_bytes (rows_said c.count c.names c.lengths) ++ bs) ≡ bundled es
  bytes-held = λ i. bytes_of number_length (h.count i) ++ (table_bytes (rows-held i) ++ h.whole i)
