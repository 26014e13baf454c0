-- A row, and the rows one behind the other.
use Prim.Native.Nat.{ℕ, ◌+◌, ◌*◌, ◌-◌, ◌≤◌, ◌<◌}
use native.Mathlib.Nat.{sub-zero}
use native.Mathlib.Omega.{arith}
use mathlib.Core.Path.{◌≡◌, refl, ap, ◌∙◌}
use mathlib.Core.List.{List, ◌++◌}
use lib.ListN.{length, get_or, take, drop, length-append, length-drop}
use lib.Seq.{length-take-le}
use Rattle.text.specs.Writing.{Appended}
use Rattle.text.proofs.Buffer.{appended_none, appended_then, appended_length}
use Rattle.bundle_rules.specs.Numbers.{bytes_of, number_length}
use Rattle.bundle_rules.specs.Bundled.{name_length, row_length, unmarked, longest, contents_length, Row, row_bytes, table_bytes}
use Rattle.bundle_rules.proofs.Numbers.{bytes-length}
use Rattle.bundle.specs.Contents.{sum_of, Lent}
use Rattle.bundle.specs.Writing.{rows_bytes, RowsPut, BundlePut}
use Rattle.bundle.proofs.Said.{sizes_left, rows_left, row_at, sum_left, rows_left_lem, none_left}

number-length : (n : ℕ) → length (bytes_of number_length n) ≡ number_length
number-length n = bytes-length number_length n

row-length : (r : Row) → length r.name ≡ name_length → length (row_bytes r) ≡ row_length unmarked
row-length r h =
    rw (length-append r.name (bytes_of number_length r.offset ++ bytes_of number_length r.size), length-append (bytes_of number_length r.offset) (bytes_of number_length r.size), number-length r.offset, number-length r.size, h)

-- Name, offset and length.
module _ (old m₁ m₂ new name : List ℕ) (at p q r offset size : ℕ) (h : length name ≡ name_length) (room : at + row_length unmarked ≤ length old) (a : Appended old at name m₁ p) where
  pub room-offset : p + number_length ≤ length m₁
  room-offset = omega (arith, a.end, appended_length a (omega arith))

  module _ (b : Appended m₁ p (bytes_of number_length offset) m₂ q) where
    pub room-size : q + number_length ≤ length m₂
    room-size =
        omega (arith, a.end, b.end, number-length offset, appended_length a (omega arith), appended_length b (omega (arith, number-length offset, room-offset)))

    pub row_put : Appended m₂ q (bytes_of number_length size) new r → Appended old at (row_bytes (record { name = name; offset = offset; size = size })) new r
    row_put d = appended_then a (omega arith) (appended_then b (omega (arith, number-length offset, room-offset)) d)

-- Where i rows are put, whoever puts those that are left has put all.
pub record Putting (old ms ls : List ℕ) (n : ℕ) (out : List ℕ) (p at i : ℕ) : Type 0 where
  pub within : i ≤ n
  pub place : p ≡ contents_length i
  pub same : length out ≡ length old
  pub short : at + sum_of (sizes_left ls n i) ≤ longest
  pub onward : (new : List ℕ) (r : ℕ) → Appended out p (table_bytes (rows_left ms ls n at i)) new r → Appended old number_length (table_bytes (rows_left ms ls n (contents_length n) 0)) new r

left-bytes : (ms ls : List ℕ) (n i at : ℕ) → i < n → n ≤ length ls → table_bytes (rows_left ms ls n at i) ≡ row_bytes (row_at ms ls at i) ++ table_bytes (rows_left ms ls n (at + get_or ls i 0) (i + 1))
unfolding table_bytes
left-bytes ms ls n i at h sized = ap table_bytes (rows_left_lem ls n i h sized ms at)

pub rows_start : (old ms ls : List ℕ) (n : ℕ) → Lent ms ls n longest → Putting old ms ls n old number_length (contents_length n) 0
rows_start old ms ls n l =
    record { within = omega arith; place = refl; same = refl; short = rw sub-zero l.ends; onward = λ new r a. a }

-- the next body's place fits 32 bits
pub next_fits : (old ms ls out : List ℕ) (n p at i : ℕ) → Lent ms ls n longest → Putting old ms ls n out p at i → i < n → at + get_or ls i 0 < 4294967296
next_fits old ms ls out n p at i l g h = omega (arith, g.short, sum_left ls n i h l.sized)

-- the next name, as the code cuts it out
abbrev pub name_at : List ℕ → ℕ → List ℕ
name_at ms i = take (name_length * i + name_length - name_length * i) (drop (name_length * i) ms)

name-same : (ms : List ℕ) (i : ℕ) → name_at ms i ≡ take name_length (drop (name_length * i) ms)
name-same ms i = let e : name_length * i + name_length - name_length * i ≡ name_length = omega arith in rw e

pub name-length : (ms ls : List ℕ) (n i : ℕ) → Lent ms ls n longest → i < n → length (name_at ms i) ≡ name_length
name-length ms ls n i l h =
    rw (name-same ms i) (length-take-le name_length (drop (name_length * i) ms) (rw length-drop (omega (arith, l.named))))

module _ (old ms ls out new : List ℕ) (n p at i r : ℕ) (l : Lent ms ls n longest) (room : contents_length n ≤ length old) (h : i < n) (g : Putting old ms ls n out p at i)
    (a : Appended out p (row_bytes (record { name = name_at ms i; offset = at; size = get_or ls i 0 })) new r) where
  abbrev row : Row
  row = record { name = name_at ms i; offset = at; size = get_or ls i 0 }

  long : length (row_bytes row) ≡ row_length unmarked
  long = row-length row (name-length ms ls n i l h)

  fits : p + length (row_bytes row) ≤ length out
  fits = omega (arith, long, g.place, g.same)

  pub rows_go_on : Putting old ms ls n new r (at + get_or ls i 0) (i + 1)
  rows_go_on =
      record {
        within = omega arith;
        place = omega (arith, a.end, long, g.place);
        same = appended_length a fits ∙ g.same;
        short = omega (arith, g.short, sum_left ls n i h l.sized);
        onward = λ last q b. g.onward last q (rw (left-bytes ms ls n i at h l.sized, ← (name-same ms i)) (appended_then a fits b));
      }

pub rows_end : (old ms ls out : List ℕ) (n p at i : ℕ) → Putting old ms ls n out p at i → n ≤ i → RowsPut old ms ls n out p
unfolding table_bytes
rows_end old ms ls out n p at i g h =
    let e : i ≡ n = omega (arith, g.within) in
    record { end = g.place ∙ ap contents_length e; rows = rw sub-zero at (g.onward out p (rw (none_left ms ls n at i h) (appended_none out p))) }

-- Count, rows and bodies.
module _ (old m₁ m₂ ms ls bs new : List ℕ) (n p q r : ℕ) (room : contents_length n + length bs ≤ length old) (a : Appended old 0 (bytes_of number_length n) m₁ p) (b : RowsPut m₁ ms ls n m₂ q) where
  count_fits : 0 + length (bytes_of number_length n) ≤ length old
  count_fits = omega (arith, number-length n)

  rows_fit : number_length + length (rows_bytes n ms ls) ≤ length m₁
  rows_fit = omega (arith, b.end, b.rows.end, appended_length a count_fits)

  pub bundle_put : Appended m₂ q bs new r → BundlePut old ms ls n bs new r
  bundle_put d =
      let e : p ≡ number_length = omega (arith, a.end, number-length n) in
      appended_then a count_fits (rw e (appended_then b.rows rows_fit d))
