-- Rows of the contents and their bytes: each gives the other back.
use Prim.Native.Nat.{ℕ, zero, suc, ◌+◌, ◌*◌, ◌^◌, ◌≤◌, ◌<◌}
use native.Mathlib.Omega.{arith}
use mathlib.Core.Path.{◌≡◌, refl, sym, ap, ◌∙◌}
use mathlib.Core.Bool.{true}
use mathlib.Core.List.{List, ◌∷◌, ◌++◌, append_assoc}
use borrow.Author.Tests.{eq-eqb}
use lib.ListN.{length, take, drop, length-append, length-drop}
use lib.Seq.{take_at, drop_at, take-add, drop-drop, take-append-le, drop-append-le, length-take-le}
use Rattle.bundle_rules.specs.Numbers.{bytes_of, value_of, Bytes, number_length}
use Rattle.bundle_rules.specs.Bundled.{name_length, row_length, unmarked, Row, row_bytes, table_bytes, full_names}
use Rattle.bundle_rules.specs.Reading.{row_of, rows_of, names_of}
use Rattle.bundle_rules.proofs.Numbers.{bytes-length, value-bytes, number-back, drop-bytes}

-- Three stretches one behind the other, and what is behind them.
module _ (a b c t : List ℕ) (n m k : ℕ) (la : length a ≡ n) (lb : length b ≡ m) (lc : length c ≡ k) where
  regrouped : (a ++ (b ++ c)) ++ t ≡ a ++ (b ++ (c ++ t))
  regrouped = simp append_assoc

  first : take n ((a ++ (b ++ c)) ++ t) ≡ a
  first = rw regrouped (take_at a (b ++ (c ++ t)) n la)

  past_first : drop n ((a ++ (b ++ c)) ++ t) ≡ b ++ (c ++ t)
  past_first = rw regrouped (drop_at a (b ++ (c ++ t)) n la)

  second : take m (drop n ((a ++ (b ++ c)) ++ t)) ≡ b
  second = rw past_first (take_at b (c ++ t) m lb)

  past_second : drop (n + m) ((a ++ (b ++ c)) ++ t) ≡ c ++ t
  past_second = sym (drop-drop m n ((a ++ (b ++ c)) ++ t)) ∙ ap (drop m) past_first ∙ drop_at b (c ++ t) m lb

  third : take k (drop (n + m) ((a ++ (b ++ c)) ++ t)) ≡ c
  third = rw past_second (take_at c t k lc)

  past_third : drop (n + m + k) ((a ++ (b ++ c)) ++ t) ≡ t
  past_third = sym (drop-drop k (n + m) ((a ++ (b ++ c)) ++ t)) ∙ ap (drop k) past_second ∙ drop_at c t k lc

-- A row that is written is read.
module _ (r : Row) (t : List ℕ) (full : length r.name ≡ name_length) where
  o : length (bytes_of number_length r.offset) ≡ number_length
  o = bytes-length number_length r.offset

  z : length (bytes_of number_length r.size) ≡ number_length
  z = bytes-length number_length r.size

  pub row-length : length (row_bytes r) ≡ row_length unmarked
  row-length =
      rw (
        length-append r.name (bytes_of number_length r.offset ++ bytes_of number_length r.size),
        length-append (bytes_of number_length r.offset) (bytes_of number_length r.size),
        full,
        o,
        z,
      )

  pub row_read : r.offset < 256 ^ number_length → r.size < 256 ^ number_length → row_of (row_bytes r ++ t) ≡ r
  row_read h l =
      let n : take name_length (row_bytes r ++ t) ≡ r.name =
      first r.name (bytes_of number_length r.offset) (bytes_of number_length r.size) t name_length number_length number_length full o z in
      let p : value_of (take number_length (drop name_length (row_bytes r ++ t))) ≡ r.offset =
      ap value_of (second r.name (bytes_of number_length r.offset) (bytes_of number_length r.size) t name_length number_length number_length full o z)
      ∙ value-bytes number_length r.offset h in
      let q : value_of (take number_length (drop (name_length + number_length) (row_bytes r ++ t))) ≡ r.size =
      ap value_of (third r.name (bytes_of number_length r.offset) (bytes_of number_length r.size) t name_length number_length number_length full o z)
      ∙ value-bytes number_length r.size l in
      λ i. record { name = n i; offset = p i; size = q i }

  pub row-past : drop (row_length unmarked) (row_bytes r ++ t) ≡ t
  row-past = past_third r.name (bytes_of number_length r.offset) (bytes_of number_length r.size) t name_length number_length number_length full o z

-- A row that is read is written as it stood.

three : (n m k : ℕ) (t : List ℕ) → take (n + m + k) t ≡ take n t ++ (take m (drop n t) ++ take k (drop (n + m) t))
three n m k t =
    take-add (n + m) k t
    ∙ ap (λ (l : List ℕ). l ++ take k (drop (n + m) t)) (take-add n m t)
    ∙ append_assoc (take n t) (take m (drop n t)) (take k (drop (n + m) t))

row_back : (t : List ℕ) → Bytes t → row_length unmarked ≤ length t → row_bytes (row_of t) ≡ take (row_length unmarked) t
row_back t h l =
    let p : bytes_of number_length (value_of (take number_length (drop name_length t))) ≡ take number_length (drop name_length t) =
    number-back number_length (drop name_length t) (drop-bytes name_length t h) (rw (length-drop name_length t) (omega arith)) in
    let q : bytes_of number_length (value_of (take number_length (drop (name_length + number_length) t))) ≡ take number_length (drop (name_length + number_length) t) =
    number-back number_length (drop (name_length + number_length) t) (drop-bytes (name_length + number_length) t h)
    (rw (length-drop (name_length + number_length) t) (omega arith)) in
    ap (λ (x : List ℕ). take name_length t ++ (x ++ bytes_of number_length (value_of (take number_length (drop (name_length + number_length) t))))) p
    ∙ ap (λ (x : List ℕ). take name_length t ++ (take number_length (drop name_length t) ++ x)) q
    ∙ sym (three name_length number_length number_length t)

pub rows_back : (n : ℕ) (t : List ℕ) → Bytes t → row_length unmarked * n ≤ length t → table_bytes (rows_of n t) ≡ take (row_length unmarked * n) t
unfolding rows_of table_bytes
rows_back zero t h l = refl
rows_back (suc n) t h l =
    let e : row_length unmarked * suc n ≡ row_length unmarked + row_length unmarked * n = omega arith in
    let rest : table_bytes (rows_of n (drop (row_length unmarked) t)) ≡ take (row_length unmarked * n) (drop (row_length unmarked) t) =
    rows_back n (drop (row_length unmarked) t) (drop-bytes (row_length unmarked) t h) (rw (length-drop (row_length unmarked) t) (omega arith)) in
    ap (λ (x : List ℕ). x ++ table_bytes (rows_of n (drop (row_length unmarked) t))) (row_back t h (omega arith))
    ∙ ap (λ (x : List ℕ). take (row_length unmarked) t ++ x) rest
    ∙ sym (take-add (row_length unmarked) (row_length unmarked * n) t)
    ∙ ap (λ (k : ℕ). take k t) (sym e)

pub rows-length : (n : ℕ) (t : List ℕ) → length (rows_of n t) ≡ n
unfolding rows_of
rows-length zero t = refl
rows-length (suc n) t = ap suc (rows-length n (drop (row_length unmarked) t))

-- Rows lie in the bytes that hold them, whatever is behind.

part_first : (n m : ℕ) (s t : List ℕ) → n + m ≤ length s → take m (drop n (s ++ t)) ≡ take m (drop n s)
part_first n m s t l =
    ap (take m) (drop-append-le n s t (omega arith))
    ∙ take-append-le m (drop n s) t (rw (length-drop n s) (omega arith))

row_first : (s t : List ℕ) → row_length unmarked ≤ length s → row_of (s ++ t) ≡ row_of s
row_first s t l =
    let n : take name_length (s ++ t) ≡ take name_length s = take-append-le name_length s t (omega arith) in
    let p : value_of (take number_length (drop name_length (s ++ t))) ≡ value_of (take number_length (drop name_length s)) =
    ap value_of (part_first name_length number_length s t (omega arith)) in
    let q : value_of (take number_length (drop (name_length + number_length) (s ++ t))) ≡ value_of (take number_length (drop (name_length + number_length) s)) =
    ap value_of (part_first (name_length + number_length) number_length s t (omega arith)) in
    λ i. record { name = n i; offset = p i; size = q i }

pub rows-first : (n : ℕ) (s t : List ℕ) → row_length unmarked * n ≤ length s → rows_of n (s ++ t) ≡ rows_of n s
unfolding rows_of
rows-first zero s t l = refl
rows-first (suc n) s t l =
    let rest : rows_of n (drop (row_length unmarked) (s ++ t)) ≡ rows_of n (drop (row_length unmarked) s) =
    ap (rows_of n) (drop-append-le (row_length unmarked) s t (omega arith))
    ∙ rows-first n (drop (row_length unmarked) s) t (rw (length-drop (row_length unmarked) s) (omega arith)) in
    λ i. row_first s t (omega arith) i ∷ rest i

-- names in a whole table have all their bytes
pub full-rows : (n : ℕ) (t : List ℕ) → row_length unmarked * n ≤ length t → full_names (names_of (rows_of n t)) ≡ true
unfolding rows_of names_of full_names
full-rows zero t l = refl
full-rows (suc n) t l =
    rw (eq-eqb (length (take name_length t)) name_length (length-take-le name_length t (omega arith)))
    (full-rows n (drop (row_length unmarked) t) (rw (length-drop (row_length unmarked) t) (omega arith)))
