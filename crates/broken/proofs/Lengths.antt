-- The lengths of what is lent, one after another; and where none is another.
use Prim.Native.Nat.{ℕ, ◌*◌}
use mathlib.Core.Path.{◌≡◌}
use mathlib.Core.Bool.{false}
use mathlib.Core.List.{List}
use borrow.Author.Tests.{eqb-true, eq-eqb, not-false}
use lib.ListN.{length}
use Rattle.rules.specs.Sizes.{max_tasks, slot_count, batch_count, width}
use Rattle.rules.proofs.Bools.{neither, ◌nor◌, is_not-not}
use Rattle.words.specs.View.{request_words, task_words}
use Rattle.state.specs.View.{Words}
use Rattle.broken.specs.Broken.{other_length, other_lengths}

-- what is lent has its lengths
pub record Lengths (w : Words) (gs : List ℕ) : Type 0 where
  pub slots : length w.slots ≡ slot_count * request_words
  pub tasks : length w.tasks ≡ max_tasks * task_words
  pub sizes : length w.sizes ≡ batch_count
  pub rows : length w.rows ≡ batch_count * width
  pub latest : length w.last ≡ width
  pub makers : length w.makers ≡ slot_count * width
  pub clocks : length w.clocks ≡ max_tasks * width
  pub grants : length gs ≡ slot_count * 3

equal : (l : List ℕ) (n : ℕ) → other_length l n ≡ false → length l ≡ n
equal l n e = eqb-true (length l) n (not-false _ e)

pub lengths : (w : Words) (gs : List ℕ) → other_lengths w gs ≡ false → Lengths w gs
lengths w gs e =
    let l7 = neither _ _ e in
    let l6 = neither _ _ l7.0 in
    let l5 = neither _ _ l6.0 in
    let l4 = neither _ _ l5.0 in
    let l3 = neither _ _ l4.0 in
    let l2 = neither _ _ l3.0 in
    let l1 = neither _ _ l2.0 in
    record {
      slots = equal w.slots _ l1.0;
      tasks = equal w.tasks _ l1.1;
      sizes = equal w.sizes _ l2.1;
      rows = equal w.rows _ l3.1;
      latest = equal w.last _ l4.1;
      makers = equal w.makers _ l5.1;
      clocks = equal w.clocks _ l6.1;
      grants = equal gs _ l7.1;
    }

no_other : (l : List ℕ) (n : ℕ) → length l ≡ n → other_length l n ≡ false
no_other l n e = is_not-not _ (eq-eqb (length l) n e)

pub no_other_length : (w : Words) (gs : List ℕ) → Lengths w gs → other_lengths w gs ≡ false
no_other_length w gs l =
    no_other w.slots _ l.slots
    nor no_other w.tasks _ l.tasks
    nor no_other w.sizes _ l.sizes
    nor no_other w.rows _ l.rows
    nor no_other w.last _ l.latest
    nor no_other w.makers _ l.makers
    nor no_other w.clocks _ l.clocks
    nor no_other gs _ l.grants
