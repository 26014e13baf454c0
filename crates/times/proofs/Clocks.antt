-- Clocks of any width in lent words: one is read, one is set; past them nothing is.
use Prim.Native.Nat.{ℕ, ◌*◌, ◌≤◌, ◌<◌}
use native.Mathlib.Nat.{zero-add}
use native.Mathlib.Omega.{arith}
use mathlib.Core.Path.{◌≡◌, sym, ◌∙◌}
use mathlib.Core.List.{List}
use lib.ListN.{length, get_or, set}
use lib.Seq.{paste, set_out}
use Rattle.rules.specs.Clock.{empty, join, tick}
use Rattle.clock.specs.declared.VectorClock.{VectorClock}
use Rattle.tables.specs.Table.{row, table}
use Rattle.tables.proofs.Rows.{row_same, row_other}
use Rattle.rules.specs.declared.TaskId.{TaskId}
use Rattle.rules.specs.Sizes.{width, max_tasks, largest}
use Rattle.times.specs.View.{clocks_of, clocks_at, clock_in, MayTick, Ticked}
use Rattle.tables.proofs.Tables.{table-set, table_get, table_past, table-length}

pub clocks-length : (w n : ℕ) (xs : List ℕ) → length (clocks_of w n xs) ≡ n
unfolding clocks_of
clocks-length w n xs = table-length (row w xs) (empty w) n 0

module _ (w n i : ℕ) (xs : List ℕ) where
  pub clock_past : n ≤ i → get_or (clocks_of w n xs) i (empty w) ≡ empty w
  unfolding clocks_of
  clock_past h = table_past (row w xs) (empty w) n i h

  pub clock-read : i < n → get_or (clocks_of w n xs) i (empty w) ≡ row w xs i
  unfolding clocks_of
  clock-read h = rw (table_get (row w xs) (empty w) n i 0 h, zero-add i)

module _ (w n i : ℕ) (xs : List ℕ) (c : VectorClock) where
  pub read_past : c.0 ≡ empty w → n ≤ i → c.0 ≡ get_or (clocks_of w n xs) i (empty w)
  read_past e h = e ∙ sym (clock_past w n i xs h)

  pub read_in : c.0 ≡ row w xs i → i < n → c.0 ≡ get_or (clocks_of w n xs) i (empty w)
  read_in e h = e ∙ sym (clock-read w n i xs h)

  pub put_past : n ≤ i → clocks_of w n xs ≡ set (clocks_of w n xs) i c.0
  unfolding clocks_of
  put_past h = sym (set_out (table (row w xs) 0 n) i c.0 (omega (arith, table-length (row w xs) (empty w) n 0)))

  pub put_in : (out : List ℕ) → out ≡ paste xs (i * w) c.0 w → length xs ≡ n * w → length c.0 ≡ w → i < n → clocks_of w n out ≡ set (clocks_of w n xs) i c.0
  unfolding clocks_of
  put_in out e sized wide h =
      rw e
      (table-set (row w xs) (row w (paste xs (i * w) c.0 w)) n i 0 h (λ k d. row_other w n xs i c.0 h sized wide k (λ q. d (q ∙ sym (zero-add i))))
      ∙ rw (zero-add i, row_same w n xs i c.0 h sized wide))

-- a clock read, changed and set
module _ (w n i : ℕ) (xs out : List ℕ) (before after : VectorClock) (r : before.0 ≡ get_or (clocks_of w n xs) i (empty w)) (p : clocks_of w n out ≡ set (clocks_of w n xs) i after.0) where
  pub set-joined : (c : VectorClock) → after.0 ≡ join before.0 c.0 → clocks_of w n out ≡ set (clocks_of w n xs) i (join (get_or (clocks_of w n xs) i (empty w)) c.0)
  set-joined c j = rw (← r, ← j) p

  pub set-ticked : after.0 ≡ tick i before.0 → clocks_of w n out ≡ set (clocks_of w n xs) i (tick i (get_or (clocks_of w n xs) i (empty w)))
  set-ticked j = rw (← r, ← j) p

  pub set_both : (ticked c : VectorClock) → ticked.0 ≡ tick i before.0 → after.0 ≡ join ticked.0 c.0 → clocks_of w n out ≡ set (clocks_of w n xs) i (join (tick i (get_or (clocks_of w n xs) i (empty w))) c.0)
  set_both ticked c t j = rw (← r, ← t, ← j) p

-- who may tick
pub may_tick : (t : TaskId) (clocks : List ℕ) (c : VectorClock) → MayTick t clocks → c.0 ≡ clock_in max_tasks clocks t.0 → get_or c.0 t.0 0 < largest
may_tick t clocks c m e = rw e m.entry

pub ticked_so : (t : TaskId) (clocks out : List ℕ) (before after : VectorClock) → before.0 ≡ clock_in max_tasks clocks t.0 → clocks_at max_tasks out ≡ set (clocks_at max_tasks clocks) t.0 after.0 → after.0 ≡ tick t.0 before.0 → Ticked after out t clocks
ticked_so t clocks out before after r p j =
    record { clocks = set-ticked width max_tasks t.0 clocks out before after r p j; clock = rw r at j }
