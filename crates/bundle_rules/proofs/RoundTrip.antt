-- Both round trips: bytes are read as some scripts exactly when they are those scripts bundled, and the scripts fit.
use Rattle.std.specs.Prelude.{Option, None, Some}
use Prim.Native.Nat.{ℕ, ◌+◌, ◌*◌, ◌^◌, ◌≤◌, ◌<◌}
use native.Mathlib.Omega.{arith}
use mathlib.Core.Logic.{◌↔◌}
use mathlib.Core.Path.{◌≡◌, refl, sym, ap, subst, ◌∙◌}
use mathlib.Core.Bool.{true}
use mathlib.Core.List.{List, ◌++◌}
use lib.ListN.{length, take, drop, length-append, length-drop, take-append-drop}
use lib.Seq.{take_at, drop_at, drop-drop}
use Rattle.bundle_rules.specs.declared.Refusal.{Refusal}
use Rattle.bundle_rules.specs.Numbers.{bytes_of, value_of, Bytes, number_length}
use Rattle.bundle_rules.specs.Bundled.{most_scripts, longest, row_length, unmarked, contents_length, Entry, Row, table_bytes, placed, bodies, bundled, well_named, full_names, entry_names, entry_sizes, Fits}
use Rattle.bundle_rules.specs.Reading.{count_of, rows_of, contents, names_of, sizes_of, entries_of, in_order, ground_of, holds, or_refused, entries_in, read_as}
use Rattle.bundle_rules.proofs.Numbers.{bytes-length, value-bytes, number-back, drop-bytes}
use Rattle.bundle_rules.proofs.Rows.{rows_back, rows-length, full-rows}
use Rattle.bundle_rules.proofs.Placing.{names-placed, sizes-placed, placed-length, placed_in_order, entries_of_lem, table-length, rows-placed, ordered_placed, ordered_bodies}
use Rattle.bundle_rules.proofs.Grounds.{Clear, none_clear, clear_none}

-- THE SHAPE OF BYTES THAT HOLD SCRIPTS: what is bundled has it, and what is read has it.
record Shape (s : List ℕ) (es : List Entry) : Type 0 where
  count : count_of s ≡ length es
  rows : contents s ≡ placed (contents_length (length es)) es
  rest : drop (contents_length (length es)) s ≡ bodies es
  size : length s ≡ contents_length (length es) + length (bodies es)

-- What is bundled.

abbrev table : List Entry → List ℕ
table es = table_bytes (placed (contents_length (length es)) es)

module _ (es : List Entry) (full : full_names (entry_names es) ≡ true) where
  first_four : take number_length (bundled es) ≡ bytes_of number_length (length es)
  first_four = take_at (bytes_of number_length (length es)) (table es ++ bodies es) number_length (bytes-length number_length (length es))

  past_four : drop number_length (bundled es) ≡ table es ++ bodies es
  past_four = drop_at (bytes_of number_length (length es)) (table es ++ bodies es) number_length (bytes-length number_length (length es))

  past_table : drop (contents_length (length es)) (bundled es) ≡ bodies es
  past_table =
      sym (drop-drop (row_length unmarked * length es) number_length (bundled es))
      ∙ ap (drop (row_length unmarked * length es)) past_four
      ∙ drop_at (table es) (bodies es) (row_length unmarked * length es) (table-length (contents_length (length es)) es full)

  pub bundled-length : length (bundled es) ≡ contents_length (length es) + length (bodies es)
  bundled-length =
      rw (
        length-append (bytes_of number_length (length es)) (table es ++ bodies es),
        length-append (table es) (bodies es),
        bytes-length number_length (length es),
        table-length (contents_length (length es)) es full,
      )
      (omega arith)

  bundled_shape : contents_length (length es) + length (bodies es) < 256 ^ number_length → Shape (bundled es) es
  bundled_shape l =
      let n : count_of (bundled es) ≡ length es = ap value_of first_four ∙ value-bytes number_length (length es) (omega arith) in
      record {
        count = n;
        rows =
            ap (λ (k : ℕ). rows_of k (drop number_length (bundled es))) n
            ∙ ap (rows_of (length es)) past_four
            ∙ rows-placed (contents_length (length es)) es (bodies es) full l;
        rest = past_table;
        size = bundled-length;
      }

-- What has the shape is read as its scripts, where they fit.
module _ (s : List ℕ) (es : List Entry) (p : Shape s es) where
  shape_names : names_of (contents s) ≡ entry_names es
  shape_names = ap names_of p.rows ∙ names-placed (contents_length (length es)) es

  shape_sizes : sizes_of (contents s) ≡ entry_sizes es
  shape_sizes = ap sizes_of p.rows ∙ sizes-placed (contents_length (length es)) es

  shape_entries : entries_in s ≡ es
  shape_entries =
      let b : drop (contents_length (count_of s)) s ≡ bodies es = ap (λ (k : ℕ). drop (contents_length k) s) p.count ∙ p.rest in
      ap (λ (ms : List (List ℕ)). entries_of ms (sizes_of (contents s)) (drop (contents_length (count_of s)) s)) shape_names
      ∙ ap (λ (ls : List ℕ). entries_of (entry_names es) ls (drop (contents_length (count_of s)) s)) shape_sizes
      ∙ ap (entries_of (entry_names es) (entry_sizes es)) b
      ∙ entries_of_lem es

  shape_clear : length es ≤ most_scripts → well_named (entry_names es) ≡ true → length s ≤ longest → Clear s (length s)
  shape_clear few named short =
      let a : in_order (contents_length (length es)) (placed (contents_length (length es)) es) (length s) ≡ true = rw p.size (placed_in_order (contents_length (length es)) es) in
      let b : in_order (contents_length (length es)) (contents s) (length s) ≡ true = ap (λ (rs : List Row). in_order (contents_length (length es)) rs (length s)) p.rows ∙ a in
      record {
        table = omega (arith, p.count, p.size);
        few = omega (arith, p.count);
        named = ap well_named shape_names ∙ named;
        ordered = ap (λ (k : ℕ). in_order (contents_length k) (contents s) (length s)) p.count ∙ b;
        short = short;
      }

  shape_read : length es ≤ most_scripts → well_named (entry_names es) ≡ true → length s ≤ longest → read_as s ≡ holds es
  unfolding read_as
  shape_read few named short = rw (clear_none s (length s) (shape_clear few named short)) (ap holds shape_entries)

-- WRITTEN, IT READS BACK EQUAL.
pub read-bundled : (es : List Entry) → Fits es → read_as (bundled es) ≡ holds es
read-bundled es f =
    let l : contents_length (length es) + length (bodies es) < 256 ^ number_length = omega (arith, f.short, bundled-length es f.full) in
    shape_read (bundled es) es (bundled_shape es f.full l) f.few f.named f.short

-- What is read.

told : (o : Option Refusal) (xs es : List Entry) → or_refused o xs ≡ holds es → (o ≡ None) × (es ≡ xs)
told None xs es e = (refl, cc)
told (Some g) xs es e = let z : ◌≡◌ {A = ℕ} 0 1 = cc in absurd (omega arith)

module _ (s : List ℕ) (c : Clear s (length s)) where
  read-end : contents_length (count_of s) + length (drop (contents_length (count_of s)) s) ≡ length s
  read-end = rw (length-drop (contents_length (count_of s)) s) (omega (arith, c.table))

  in_order_lem : in_order (contents_length (count_of s)) (contents s) (contents_length (count_of s) + length (drop (contents_length (count_of s)) s)) ≡ true
  in_order_lem = ap (in_order (contents_length (count_of s)) (contents s)) read-end ∙ c.ordered

  read-rows : placed (contents_length (count_of s)) (entries_in s) ≡ contents s
  read-rows = ordered_placed (contents_length (count_of s)) (contents s) (drop (contents_length (count_of s)) s) in_order_lem

  read-bodies : bodies (entries_in s) ≡ drop (contents_length (count_of s)) s
  read-bodies = ordered_bodies (contents_length (count_of s)) (contents s) (drop (contents_length (count_of s)) s) in_order_lem

  read_count : count_of s ≡ length (entries_in s)
  read_count =
      sym (sym (placed-length (contents_length (count_of s)) (entries_in s)) ∙ ap length read-rows ∙ rows-length (count_of s) (drop number_length s))

  read_shape : Shape s (entries_in s)
  read_shape =
      record {
        count = read_count;
        rows = sym read-rows ∙ ap (λ (k : ℕ). placed (contents_length k) (entries_in s)) read_count;
        rest = ap (λ (k : ℕ). drop (contents_length k) s) (sym read_count) ∙ sym read-bodies;
        size = omega (arith, read-end, read_count, ap length read-bodies);
      }

-- what an accepted bundle tells of its scripts
pub record Accepted (s : List ℕ) (es : List Entry) : Type 0 where
  pub entries : es ≡ entries_in s
  pub count : count_of s ≡ length es
  pub names : names_of (contents s) ≡ entry_names es
  pub sizes : sizes_of (contents s) ≡ entry_sizes es
  pub rest : drop (contents_length (length es)) s ≡ bodies es
  pub size : length s ≡ contents_length (length es) + length (bodies es)

module _ (s : List ℕ) (es : List Entry) (e : read_as s ≡ holds es) where
  no_ground : (ground_of s (length s) ≡ None) × (es ≡ entries_in s)
  unfolding read_as
  no_ground = told (ground_of s (length s)) (entries_in s) es e

  clear : Clear s (length s)
  clear = none_clear s (length s) no_ground.0

  shape : Shape s es
  shape = subst (λ (xs : List Entry). Shape s xs) (sym no_ground.1) (read_shape s clear)

  pub accepted : Accepted s es
  accepted =
      record {
        entries = no_ground.1;
        count = shape.count;
        names = shape_names s es shape;
        sizes = shape_sizes s es shape;
        rest = shape.rest;
        size = shape.size;
      }

  full-names : full_names (entry_names es) ≡ true
  full-names =
      sym (ap full_names (shape_names s es shape))
      ∙ full-rows (count_of s) (drop number_length s) (rw (length-drop number_length s) (omega (arith, clear.table)))

  pub fits_read : Fits es
  fits_read =
      record {
        few = omega (arith, clear.few, shape.count);
        full = full-names;
        named = sym (ap well_named (shape_names s es shape)) ∙ clear.named;
        short = omega (arith, clear.short, shape.size, bundled-length es full-names);
      }

  four_back : Bytes s → bytes_of number_length (length es) ≡ take number_length s
  four_back h = ap (bytes_of number_length) (sym shape.count) ∙ number-back number_length s h (omega (arith, clear.table))

  table-back : Bytes s → table es ≡ take (row_length unmarked * length es) (drop number_length s)
  table-back h =
      ap table_bytes (sym shape.rows)
      ∙ rows_back (count_of s) (drop number_length s) (drop-bytes number_length s h) (rw (length-drop number_length s) (omega (arith, clear.table)))
      ∙ ap (λ (k : ℕ). take (row_length unmarked * k) (drop number_length s)) shape.count

  bodies-back : bodies es ≡ drop (row_length unmarked * length es) (drop number_length s)
  bodies-back = sym shape.rest ∙ sym (drop-drop (row_length unmarked * length es) number_length s)

  -- READ AND WRITTEN AGAIN, IT HAS THE SAME BYTES.
  pub bundled-read : Bytes s → s ≡ bundled es
  bundled-read h =
      sym (
      rw (four_back h, table-back h, bodies-back, take-append-drop (row_length unmarked * length es) (drop number_length s))
      (take-append-drop number_length s)
      )

-- BOTH ROUND TRIPS AT ONCE.
pub reads_exactly : (s : List ℕ) (es : List Entry) → Bytes s → (read_as s ≡ holds es) ↔ ((s ≡ bundled es) × Fits es)
reads_exactly s es h = (
  (λ e. (bundled-read s es e h, fits_read s es e)),
  (λ p. ap read_as p.0 ∙ read-bundled es p.1),
)

-- no two lists of scripts that fit have the same bytes
pub bundled-once : (es fs : List Entry) → Fits es → Fits fs → bundled es ≡ bundled fs → es ≡ fs
bundled-once es fs f g e =
    let p : holds es ≡ holds fs = sym (read-bundled es f) ∙ ap read_as e ∙ read-bundled fs g in
    cc
