-- The first line: what it came to, and the lines behind it; the whole script.
use Prim.Native.Nat.{ℕ, ◌+◌, ◌*◌, ◌/◌, ◌≤◌, ◌<◌}
use native.Mathlib.Nat.{div-add-mod'}
use native.Mathlib.Omega.{arith}
use mathlib.Core.Path.{◌≡◌, refl, sym}
use mathlib.Core.List.{List, [], ◌∷◌, ◌++◌}
use lib.ListN.{length, drop}
use lib.Seq.{length-take-le}
use Rattle.rules.specs.Sizes.{slot_count}
use Rattle.rules.specs.Text.{lines}
use Rattle.rules.specs.Script.{outcome_text, trace, program, longest, printed, byte_room}
use Rattle.rules.proofs.Scripts.{long-printed, short-printed}
use Rattle.rules.proofs.Rooms.{printed-short}
use Rattle.tables.specs.Table.{table}
use Rattle.text.specs.Writing.{Appended}
use Rattle.text.proofs.Buffer.{appended_none, appended_then}
use Rattle.replies.specs.declared.Reply.TheVariants.{Done}
use Rattle.words.specs.View.{grants_of}
use Rattle.state.specs.declared.BatchSemaphore.{BatchSemaphore}
use Rattle.state.specs.View.{Words, view_of, outcome_of, Fit}
use Rattle.walking.specs.declared.Begun.{Begun}
use Rattle.reading.specs.Starts.{BadAt}
use Rattle.walking.specs.Coming.{FreshAt, RefusedAt}
use Rattle.walking.proofs.Printed.{fresh_prints, refused_prints, bad_prints, nothing_prints}
use Rattle.printing.proofs.Chain.{Room, pair, here, onward}
use Rattle.trace.specs.Running.{room, first_of, Prints}
use Rattle.trace.proofs.Turns.{same_text}

-- The line of the fresh state, and the lines behind it.
abbrev first_text : BatchSemaphore → List ℕ → Words → List ℕ
first_text s gs v = outcome_text (outcome_of (record { reply = Done; count = 0; state = s }) v gs)

module _ (script : List ℕ) (from : ℕ) (old : List ℕ) {s : BatchSemaphore} {w : Words} {gs : List ℕ} (f : Fit s w gs)
    (room : length (first_of (view_of s w) ++ trace (view_of s w) (lines (drop from script))) ≤ length old)
  where
    first-room : Room old 0 (first_text s gs w ∷ trace (view_of s w) (lines (drop from script)) ∷ [])
    unfolding grants_of table
    first-room = pair (first_text s gs w) (trace (view_of s w) (lines (drop from script))) (omega (arith, room))

    pub fresh-line : (v : Words) → 0 + length (first_text s gs v) ≤ length old
    fresh-line v = rw (same_text (record { reply = Done; count = 0; state = s }) gs v w) (here first-room)

    module _ {mid : List ℕ} {n : ℕ} (a : (v : Words) → Appended old 0 (first_text s gs v) mid n) where
      pub fresh-room : n + length (trace (view_of s w) (lines (drop from script))) ≤ length mid
      fresh-room = here (onward first-room (a w))

      pub fresh-printed : {new : List ℕ} {r : ℕ} → Appended mid n (trace (view_of s w) (lines (drop from script))) new r
          → Appended old 0 (first_of (view_of s w) ++ trace (view_of s w) (lines (drop from script))) new r
      unfolding grants_of table
      fresh-printed b = appended_then (a w) (here first-room) b

-- The whole script, by what its first line came to.
module _ {script : List ℕ} {m : ℕ} (h : length (program (lines script)) ≤ m) where
  pub whole_room : {r : Begun} {w : Words} → FreshAt script r w → length (first_of (view_of r.state w) ++ trace (view_of r.state w) (lines (drop r.next script))) ≤ m
  whole_room f = rw (fresh_prints f) at h

  pub refused-room : RefusedAt script → 4 ≤ m
  refused-room f = rw (refused_prints f) at h

  pub bad-room : BadAt script → 4 ≤ m
  bad-room f = rw (bad_prints f) at h

pub whole-fit : {script : List ℕ} {r : Begun} {w : Words} {gs : List ℕ} → FreshAt script r w → length gs ≡ slot_count * 3 → Fit r.state w gs
whole-fit f l = let g = f.begins in record { shaped = g.shaped; grants = l; sound = g.sound }

module _ {script old new : List ℕ} {e : ℕ} where
  pub whole_fresh : {r : Begun} {w : Words} → FreshAt script r w → Appended old 0 (first_of (view_of r.state w) ++ trace (view_of r.state w) (lines (drop r.next script))) new e
      → Appended old 0 (program (lines script)) new e
  whole_fresh f a = rw (fresh_prints f) a

  pub whole-refused : RefusedAt script → Appended old 0 (114 ∷ 49 ∷ 50 ∷ 10 ∷ []) new e → Appended old 0 (program (lines script)) new e
  whole-refused f a = rw (refused_prints f) a

  pub whole-bad : BadAt script → Appended old 0 (98 ∷ 97 ∷ 100 ∷ 10 ∷ []) new e → Appended old 0 (program (lines script)) new e
  whole-bad f a = rw (bad_prints f) a

pub whole_none : (script old : List ℕ) → lines script ≡ [] → Appended old 0 (program (lines script)) old 0
whole_none script old q = rw (nothing_prints script q) (appended_none old 0)

-- More than 65,536 bytes print only `long`.
module _ (script old : List ℕ) where
  module _ (h : longest < length script) where
    pub long-room : length (printed script) ≤ length old → 5 ≤ length old
    long-room l = rw (long-printed script h) at l

    pub long_in : (new : List ℕ) (r : ℕ) → Appended old 0 (108 ∷ 111 ∷ 110 ∷ 103 ∷ 10 ∷ []) new r → Appended old 0 (printed script) new r
    long_in new r a = rw (long-printed script h) a

  module _ (h : length script ≤ longest) where
    pub program-fits : length (printed script) ≤ length old → length (program (lines script)) ≤ length old
    program-fits l = rw (short-printed script h) at l

    pub short_in : (new : List ℕ) (r : ℕ) → Appended old 0 (program (lines script)) new r → Appended old 0 (printed script) new r
    short_in new r a = rw (short-printed script h) a

  -- with room
  module _ (k : room script ≤ length old) where
    pub printed-fits : length (printed script) ≤ length old
    printed-fits = omega (arith, printed-short script)

    pub prints_in : (new : List ℕ) (r : ℕ) → length new ≡ length old → Appended old 0 (printed script) new r → Prints script old new r
    prints_in new r l b =
        let fits : r ≤ length new = omega (arith, b.end, printed-fits) in
        record {
          text = λ _. b.whole;
          count = λ _. omega (arith, b.end);
          short = λ h. absurd (omega arith);
          fits = fits;
          counted = sym (length-take-le r new fits);
        }

-- and without
pub prints_nothing : (script old : List ℕ) → length old < room script → Prints script old old 0
prints_nothing script old h =
    record {
      text = λ k. absurd (omega arith);
      count = λ k. absurd (omega arith);
      short = λ _. (refl, refl);
      fits = omega arith;
      counted = refl;
    }

-- The room, by a quotient.
pub enough-room : (m n : ℕ) → n ≤ m / byte_room → byte_room * n ≤ m
enough-room m n h = omega (arith, div-add-mod' m byte_room)

pub short-room : (m n : ℕ) → m / byte_room < n → m < byte_room * n
short-room m n h = omega (arith, div-add-mod' m byte_room)
