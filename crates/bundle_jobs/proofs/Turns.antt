-- From row to row: what is printed of one more, and what is left to print.
use Prim.Native.Nat.{ℕ, ◌+◌, ◌*◌, ◌-◌, ◌≤◌, ◌<◌}
use native.Mathlib.Nat.{sub-zero, add-sub_cancel_left}
use native.Mathlib.Omega.{arith}
use mathlib.Core.Path.{◌≡◌, refl, ap, sym, ◌∙◌}
use mathlib.Core.List.{List, [], ◌∷◌, ◌++◌, append_assoc, append-nil}
use lib.ListN.{length, get_or, take, drop, length-append, length-take}
use Rattle.rules.specs.Text.{before}
use Rattle.rules.specs.Script.{printed, byte_room}
use Rattle.rules.proofs.Decimal.{digits-length}
use Rattle.rules.proofs.Parts.{before-length}
use Rattle.rules.proofs.Rooms.{printed-short}
use Rattle.text.specs.Writing.{Appended}
use Rattle.text.proofs.Buffer.{appended_none, appended_then, appended_length}
use Rattle.bundle_rules.specs.Bundled.{name_length, longest, contents_length, Row}
use Rattle.bundle.specs.Contents.{sum_of, rows_said, end_of, Lent}
use Rattle.bundle.proofs.Said.{sizes_left, rows_left, row_at, sum_left, rows_left_lem, none_left}
use Rattle.bundle_jobs.specs.Printed.{heading_text, row_text, rows_text, scripts_text, room_for}
use Rattle.bundle_jobs.specs.Placing.{script_room, row_room, scripts_at}
use Rattle.bundle_jobs.proofs.Pieces.{heading_length, row-length}

-- a part from a place on
pub part_is : (s : List ℕ) (from size : ℕ) → take (from + size - from) (drop from s) ≡ take size (drop from s)
part_is s from size = rw add-sub_cancel_left

-- What the texts of rows are made of.
pub record Made (text_of : List Row → List ℕ) (piece : Row → List ℕ) : Type 0 where
  pub none : text_of [] ≡ []
  pub more : (r : Row) (rs : List Row) → text_of (r ∷ rs) ≡ piece r ++ text_of rs

abbrev pub script_text : List ℕ → Row → List ℕ
script_text s r = heading_text r.name ++ printed (take r.size (drop r.offset s))

pub rows_made : Made rows_text row_text
unfolding rows_text
rows_made = record { none = refl; more = λ r rs. refl }

pub scripts_made : (s : List ℕ) → Made (scripts_at s) (script_text s)
unfolding scripts_text
scripts_made s = record { none = refl; more = λ r rs. refl }

-- i rows of n are printed, the next body stands at `from`, and what is left to print is left. Each row that is left has room for its heading or
-- line in what the contents take, as each body before `from` had for what it printed.
pub record Turn (text_of : List Row → List ℕ) (names sizes : List ℕ) (n : ℕ) (old : List ℕ) (i from : ℕ) (out : List ℕ) (at : ℕ) : Type 0 where
  pub text : List ℕ
  pub put : Appended old 0 text out at
  pub left : text ++ text_of (rows_left names sizes n from i) ≡ text_of (rows_said n names sizes)
  pub ends : from + sum_of (sizes_left sizes n i) ≡ end_of n sizes
  pub short : at + row_room * (n - i) ≤ byte_room * from
  pub within : i ≤ n

-- before the first turn
pub turn_none : (text_of : List Row → List ℕ) (names sizes : List ℕ) (n : ℕ) (old : List ℕ) → Turn text_of names sizes n old 0 (contents_length n) old 0
turn_none text_of names sizes n old =
    record {
      text = [];
      put = appended_none old 0;
      left = rw sub-zero;
      ends = rw sub-zero;
      short = omega arith;
      within = omega arith;
    }

-- from the rows printed so far
module _ {text_of : List Row → List ℕ} {names sizes : List ℕ} {n : ℕ} {old : List ℕ} {i from : ℕ} {out : List ℕ} {at : ℕ} (t : Turn text_of names sizes n old i from out at) where
  turn-fits : byte_room * end_of n sizes ≤ length old → 0 + length t.text ≤ length old
  turn-fits f = omega (arith, t.put.end, t.short, t.ends)

  pub turn-length : byte_room * end_of n sizes ≤ length old → length out ≡ length old
  turn-length f = appended_length t.put (turn-fits f)

  -- the next body ends by the end of all
  pub turn_end : (end : ℕ) → Lent names sizes n end → i < n → from + get_or sizes i 0 ≤ end
  turn_end end l h = omega (arith, l.ends, t.ends, sum_left sizes n i h l.sized)

  -- and its row has room
  turn-room : byte_room * end_of n sizes ≤ length old → n ≤ length sizes → i < n → at + row_room + byte_room * get_or sizes i 0 ≤ length out
  turn-room f l h = omega (arith, t.short, t.ends, sum_left sizes n i h l, turn-length f)

  -- one row more
  pub turn_more : {piece : Row → List ℕ} {new : List ℕ} {r : ℕ} → Made text_of piece → byte_room * end_of n sizes ≤ length old → n ≤ length sizes → i < n
      → length (piece (row_at names sizes from i)) ≤ row_room + byte_room * get_or sizes i 0
      → Appended out at (piece (row_at names sizes from i)) new r → Turn text_of names sizes n old (i + 1) (from + get_or sizes i 0) new r
  turn_more {piece} m f l h b p =
      let row = row_at names sizes from i in
      let rest = rows_left names sizes n (from + get_or sizes i 0) (i + 1) in
      record {
        text = t.text ++ piece row;
        put = appended_then t.put (turn-fits f) p;
        left =
            append_assoc t.text (piece row) (text_of rest)
            ∙ ap (λ (x : List ℕ). t.text ++ x) (sym (m.more row rest) ∙ ap text_of (sym (rows_left_lem sizes n i h l names from)))
            ∙ t.left;
        ends = omega (arith, t.ends, sum_left sizes n i h l);
        short = omega (arith, t.short, p.end);
        within = omega arith;
      }

  -- and behind the last
  pub turn-ends : {piece : Row → List ℕ} → Made text_of piece → n ≤ i → Appended old 0 (text_of (rows_said n names sizes)) out at
  turn-ends m h =
      let d : t.text ≡ text_of (rows_said n names sizes) =
      sym (append-nil t.text) ∙ ap (λ (x : List ℕ). t.text ++ x) (sym m.none ∙ ap text_of (sym (none_left names sizes n from i h))) ∙ t.left in
      rw d at t.put

-- a name up to its first zero byte
name-short : (names : List ℕ) (i : ℕ) → length (before 0 (take name_length (drop (name_length * i) names))) ≤ name_length
name-short names i =
    let m = drop (name_length * i) names in
    omega (arith, before-length 0 (take name_length m), length-take name_length m)

-- The next row of the list.
row-short : (names sizes : List ℕ) (i from : ℕ) → from + get_or sizes i 0 ≤ longest → length (row_text (row_at names sizes from i)) ≤ row_room
row-short names sizes i from h =
    omega (
      arith,
      row-length (take name_length (drop (name_length * i) names)) from (get_or sizes i 0),
      name-short names i,
      digits-length from 9 (omega arith),
      digits-length (get_or sizes i 0) 9 (omega arith),
    )

module _ {names sizes : List ℕ} {n : ℕ} {old : List ℕ} {i from : ℕ} {out : List ℕ} {at : ℕ} (t : Turn rows_text names sizes n old i from out at) (l : Lent names sizes n longest) (f : byte_room * end_of n sizes ≤ length old) where
  pub rows_end : n ≤ i → Appended old 0 (rows_text (rows_said n names sizes)) out at
  rows_end h = turn-ends t rows_made h

  module _ (h : i < n) (name : List ℕ) (e : name ≡ take name_length (drop (name_length * i) names)) where
    short : length (row_text (row_at names sizes from i)) ≤ row_room
    short = row-short names sizes i from (turn_end t longest l h)

    pub row_room_lem : at + length (row_text (record { name = name; offset = from; size = get_or sizes i 0 })) ≤ length out
    row_room_lem = rw e (omega (arith, turn-room t f l.sized h, short))

    pub row_more : {new : List ℕ} {r : ℕ} → Appended out at (row_text (record { name = name; offset = from; size = get_or sizes i 0 })) new r
        → Turn rows_text names sizes n old (i + 1) (from + get_or sizes i 0) new r
    row_more p = turn_more t rows_made f l.sized h (omega (arith, short)) (rw e at p)

-- The next script.
module _ (s : List ℕ) {names sizes : List ℕ} {n : ℕ} {old : List ℕ} {i from : ℕ} {out : List ℕ} {at : ℕ} (t : Turn (scripts_at s) names sizes n old i from out at) (l : Lent names sizes n (length s)) (f : room_for s ≤ length old) where
  enough : byte_room * end_of n sizes ≤ length old
  enough = omega (arith, l.ends)

  pub scripts_length : length out ≡ length old
  scripts_length = turn-length t enough

  pub scripts_end : n ≤ i → Appended old 0 (scripts_at s (rows_said n names sizes)) out at
  scripts_end h = turn-ends t (scripts_made s) h

  module _ (h : i < n) (name body : List ℕ) (e : name ≡ take name_length (drop (name_length * i) names)) (b : body ≡ take (get_or sizes i 0) (drop from s)) where
    script_short : script_room name body ≤ row_room + byte_room * get_or sizes i 0
    script_short = rw (e, b) (omega (arith, heading_length (take name_length (drop (name_length * i) names)), name-short names i, length-take (get_or sizes i 0) (drop from s)))

    pub script_fits : at + script_room name body ≤ length out
    script_fits = omega (arith, turn-room t enough l.sized h, script_short)

    text-short : length (heading_text name ++ printed body) ≤ row_room + byte_room * get_or sizes i 0
    text-short = rw length-append (omega (arith, script_short, printed-short body))

    pub script_more : {new : List ℕ} {r : ℕ} → Appended out at (heading_text name ++ printed body) new r → Turn (scripts_at s) names sizes n old (i + 1) (from + get_or sizes i 0) new r
    script_more p = turn_more t (scripts_made s) enough l.sized h (rw (e, b) at text-short) (rw (e, b) at p)
