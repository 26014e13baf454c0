-- Scripts, and rows whose bodies stand in order: each gives the other back.
use Prim.Native.Nat.{ℕ, suc, ◌+◌, ◌*◌, ◌^◌, ◌≤◌, ◌<◌}
use native.Mathlib.Omega.{arith}
use mathlib.Core.Path.{◌≡◌, refl, sym, ap, ◌∙◌}
use mathlib.Core.Bool.{true}
use mathlib.Core.List.{List, [], ◌∷◌, ◌++◌, append_assoc}
use borrow.Author.Tests.{eqb-true, eq-eqb}
use lib.Dec.{eqb}
use lib.ListN.{length, take, drop, length-append, length-drop, take-append-drop}
use lib.Seq.{length-take-le, take-append_seam, drop-append_seam}
use Rattle.rules.proofs.Bools.{both}
use Rattle.bundle_rules.specs.Numbers.{number_length}
use Rattle.bundle_rules.specs.Bundled.{name_length, row_length, unmarked, Entry, Row, row_bytes, table_bytes, placed, bodies, full_names, entry_names, entry_sizes}
use Rattle.bundle_rules.specs.Reading.{rows_of, row_of, names_of, sizes_of, entries_of, in_order}
use Rattle.bundle_rules.proofs.Rows.{row-length, row_read, row-past}

-- Of scripts that are placed.

pub names-placed : (at : ℕ) (es : List Entry) → names_of (placed at es) ≡ entry_names es
unfolding names_of placed entry_names
names-placed at [] = refl
names-placed at (e ∷ es) = ap (λ (l : List (List ℕ)). e.name ∷ l) (names-placed (at + length e.body) es)

pub sizes-placed : (at : ℕ) (es : List Entry) → sizes_of (placed at es) ≡ entry_sizes es
unfolding sizes_of placed entry_sizes
sizes-placed at [] = refl
sizes-placed at (e ∷ es) = ap (λ (l : List ℕ). length e.body ∷ l) (sizes-placed (at + length e.body) es)

pub placed-length : (at : ℕ) (es : List Entry) → length (placed at es) ≡ length es
unfolding placed
placed-length at [] = refl
placed-length at (e ∷ es) = ap suc (placed-length (at + length e.body) es)

pub placed_in_order : (at : ℕ) (es : List Entry) → in_order at (placed at es) (at + length (bodies es)) ≡ true
unfolding in_order placed bodies
placed_in_order at [] = eq-eqb at (at + 0) (omega arith)
placed_in_order at (e ∷ es) =
    let end : at + length (e.body ++ bodies es) ≡ at + length e.body + length (bodies es) = rw (length-append e.body (bodies es)) (omega arith) in
    rw (eq-eqb at at refl, end) (placed_in_order (at + length e.body) es)

pub entries_of_lem : (es : List Entry) → entries_of (entry_names es) (entry_sizes es) (bodies es) ≡ es
unfolding entries_of entry_names entry_sizes bodies
entries_of_lem [] = refl
entries_of_lem (e ∷ es) =
    let rest : entries_of (entry_names es) (entry_sizes es) (drop (length e.body) (e.body ++ bodies es)) ≡ es =
    ap (entries_of (entry_names es) (entry_sizes es)) (drop-append_seam e.body (bodies es)) ∙ entries_of_lem es in
    λ i. record { name = e.name; body = take-append_seam e.body (bodies es) i } ∷ rest i

-- the first of full names is full, and so are the others
full_both : (m : List ℕ) (ms : List (List ℕ)) → full_names (m ∷ ms) ≡ true → (length m ≡ name_length) × (full_names ms ≡ true)
unfolding full_names
full_both m ms h =
    let p : (eqb (length m) name_length ≡ true) × (full_names ms ≡ true) = both (eqb (length m) name_length) (full_names ms) h in
    (eqb-true (length m) name_length p.0, p.1)

pub table-length : (at : ℕ) (es : List Entry) → full_names (entry_names es) ≡ true → length (table_bytes (placed at es)) ≡ row_length unmarked * length es
unfolding placed table_bytes entry_names
table-length at [] full = refl
table-length at (e ∷ es) full =
    let f : (length e.name ≡ name_length) × (full_names (entry_names es) ≡ true) = full_both e.name (entry_names es) full in
    let r : Row = record { name = e.name; offset = at; size = length e.body } in
    length-append (row_bytes r) (table_bytes (placed (at + length e.body) es))
    ∙ rw (row-length r [] f.0, table-length (at + length e.body) es f.1) (omega arith)

-- the rows that are written are read
pub rows-placed : (at : ℕ) (es : List Entry) (t : List ℕ) → full_names (entry_names es) ≡ true → at + length (bodies es) < 256 ^ number_length → rows_of (length es) (table_bytes (placed at es) ++ t) ≡ placed at es
unfolding placed table_bytes rows_of entry_names bodies
rows-placed at [] t full l = refl
rows-placed at (e ∷ es) t full l =
    let f : (length e.name ≡ name_length) × (full_names (entry_names es) ≡ true) = full_both e.name (entry_names es) full in
    let r : Row = record { name = e.name; offset = at; size = length e.body } in
    let b : at + (length e.body + length (bodies es)) < 256 ^ number_length = rw (length-append e.body (bodies es)) at l in
    let u : List ℕ = table_bytes (placed (at + length e.body) es) ++ t in
    let g : (row_bytes r ++ table_bytes (placed (at + length e.body) es)) ++ t ≡ row_bytes r ++ u =
    append_assoc (row_bytes r) (table_bytes (placed (at + length e.body) es)) t in
    let here : row_of (row_bytes r ++ u) ≡ r = row_read r u f.0 (omega arith) (omega arith) in
    let rest : rows_of (length es) (drop (row_length unmarked) (row_bytes r ++ u)) ≡ placed (at + length e.body) es =
    ap (rows_of (length es)) (row-past r u f.0) ∙ rows-placed (at + length e.body) es t f.1 (omega arith) in
    ap (rows_of (suc (length es))) g ∙ (λ i. here i ∷ rest i)

-- Of rows whose bodies stand in order.

pub in_order_up : (at : ℕ) (rs : List Row) (end : ℕ) → in_order at rs end ≡ true → at ≤ end
unfolding in_order
in_order_up at [] end h = omega (arith, eqb-true at end h)
in_order_up at (r ∷ rs) end h =
    omega (arith, in_order_up (at + r.size) rs end (both (eqb r.offset at) (in_order (at + r.size) rs end) h).1)

-- the first body begins at the place, lies in the bodies, and the others follow it
record Follows (at : ℕ) (r : Row) (rs : List Row) (bs : List ℕ) : Type 0 where
  begins : r.offset ≡ at
  sized : length (take r.size bs) ≡ r.size
  onward : in_order (at + r.size) rs (at + r.size + length (drop r.size bs)) ≡ true

follows : (at : ℕ) (r : Row) (rs : List Row) (bs : List ℕ) → in_order at (r ∷ rs) (at + length bs) ≡ true → Follows at r rs bs
unfolding in_order
follows at r rs bs h =
    let p : (eqb r.offset at ≡ true) × (in_order (at + r.size) rs (at + length bs) ≡ true) = both (eqb r.offset at) (in_order (at + r.size) rs (at + length bs)) h in
    let l : at + r.size ≤ at + length bs = in_order_up (at + r.size) rs (at + length bs) p.1 in
    let end : at + length bs ≡ at + r.size + length (drop r.size bs) = rw (length-drop r.size bs) (omega arith) in
    record {
      begins = eqb-true r.offset at p.0;
      sized = length-take-le r.size bs (omega arith);
      onward = rw end at p.1;
    }

pub ordered_placed : (at : ℕ) (rs : List Row) (bs : List ℕ) → in_order at rs (at + length bs) ≡ true → placed at (entries_of (names_of rs) (sizes_of rs) bs) ≡ rs
unfolding placed entries_of names_of sizes_of
ordered_placed at [] bs h = refl
ordered_placed at (r ∷ rs) bs h =
    let f : Follows at r rs bs = follows at r rs bs h in
    let rest : placed (at + length (take r.size bs)) (entries_of (names_of rs) (sizes_of rs) (drop r.size bs)) ≡ rs =
    rw f.sized (ordered_placed (at + r.size) rs (drop r.size bs) f.onward) in
    λ i. record { name = r.name; offset = sym f.begins i; size = f.sized i } ∷ rest i

no_byte : (bs : List ℕ) → length bs ≡ 0 → [] ≡ bs
no_byte [] h = refl
no_byte (b ∷ bs) h = absurd (omega arith)

pub ordered_bodies : (at : ℕ) (rs : List Row) (bs : List ℕ) → in_order at rs (at + length bs) ≡ true → bodies (entries_of (names_of rs) (sizes_of rs) bs) ≡ bs
unfolding bodies entries_of names_of sizes_of in_order
ordered_bodies at [] bs h = no_byte bs (omega (arith, eqb-true at (at + length bs) h))
ordered_bodies at (r ∷ rs) bs h =
    let f : Follows at r rs bs = follows at r rs bs h in
    ap (λ (l : List ℕ). take r.size bs ++ l) (ordered_bodies (at + r.size) rs (drop r.size bs) f.onward)
    ∙ take-append-drop r.size bs
