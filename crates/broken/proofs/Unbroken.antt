-- What is handed in is not broken exactly where it is fit: arrays of their lengths, counts within them, words that stand for something, and a sound
-- state.
use Prim.Native.Nat.{ℕ, zero, suc, ◌+◌, ◌*◌, ◌≤◌, ◌<◌}
use native.Mathlib.Decide.{dec_lt}
use native.Mathlib.Nat.{zero-add, add-zero}
use native.Mathlib.Omega.{arith}
use mathlib.Core.Path.{◌≡◌, refl, sym, ap, ◌∙◌}
use mathlib.Core.Bool.{Bool, true, false, not, ◌||◌}
use mathlib.Core.List.{List}
use borrow.Author.Tests.{ltb-false, le-ltb, not-false}
use lib.Dec.{ltb}
use lib.ListN.{length, length-map, get_or-eq_default}
use Rattle.rules.specs.Sizes.{max_tasks, slot_count, width}
use Rattle.rules.specs.Clock.{Clock}
use Rattle.rules.specs.State.{Permits}
use Rattle.rules.specs.Broken.{any_of, broken}
use Rattle.rules.proofs.Bools.{neither, ◌nor◌, is_not-not}
use Rattle.rules.proofs.Queues.{slot_fails, no_slot}
use Rattle.rules.proofs.Soundness.{unbroken-sound, sound-unbroken}
use Rattle.splitting.specs.Plain.{Plain}
use Rattle.splitting.specs.Split.{forget_slot}
use Rattle.splitting.specs.Broken.{broken_plain}
use Rattle.splitting.proofs.Broken.{broken-whole}
use Rattle.tables.specs.Table.{row, table}
use Rattle.words.specs.View.{request_words, row_stands, task_stands, SlotsStand}
use Rattle.words.proofs.Slots.{length-slots}
use Rattle.batches.specs.Broken.{permits_of, head_beyond, bad_batches, broken_batches}
use Rattle.batches.proofs.Breaking.{unbroken-formed, within_places}
use Rattle.state.specs.declared.BatchSemaphore.{BatchSemaphore}
use Rattle.state.specs.View.{Words, plain_in, view_of, Fit}
use Rattle.state.proofs.Viewing.{forget-view}
use Rattle.broken.specs.Broken.{stray_slots, stray_tasks, other_lengths, beyond, broken_who, is_broken, Judged}
use Rattle.broken.proofs.Rows.{row_word}
use Rattle.broken.proofs.Lengths.{lengths, no_other_length}

-- ---- words that stand for something
module _ (f : ℕ → Bool) where
  all_so : (n i : ℕ) → any_of not (table f i n) ≡ false → (k : ℕ) → k < n → f (i + k) ≡ true
  unfolding any_of table
  all_so zero i e k l = absurd (omega arith)
  all_so (suc n) i e zero l = rw (add-zero i) (not-false (f i) (neither (not (f i)) _ e).0)
  all_so (suc n) i e (suc k) l =
      let q : i + suc k ≡ suc i + k = omega arith in
      rw q (all_so n (suc i) (neither (not (f i)) _ e).1 k (omega arith))

  so_all : (n i : ℕ) → ((k : ℕ) → k < i + n → f k ≡ true) → any_of not (table f i n) ≡ false
  unfolding any_of table
  so_all zero i h = refl
  so_all (suc n) i h = is_not-not (f i) (h i (omega arith)) nor so_all n (suc i) (λ k l. h k (omega arith))

-- past the slots there are no words, and none stands for no request
past_stands : (w : List ℕ) (k : ℕ) → length w ≡ slot_count * request_words → slot_count ≤ k → row_stands (row request_words w k) ≡ true
unfolding row_stands
past_stands w k n l = rw (row_word w k 0 (omega arith), get_or-eq_default w 0 {n = k * request_words + 0} (omega arith))

slots-stand : (w : List ℕ) → length w ≡ slot_count * request_words → stray_slots w ≡ false → SlotsStand w
slots-stand w n e k =
    elim (dec_lt k slot_count) [
      | yes l ↦ not-false _ (slot_fails (λ x. not (row_stands (row request_words w x.0))) slot_count 0 e (record { 0 = k }) (omega arith) l)
      | no l ↦ past_stands w k n (omega arith)
    ]

-- ---- the whole
abbrev permits : BatchSemaphore → Words → Permits
permits s w = permits_of s.head.stock s.batches w.sizes w.rows (row width w.last 0)

-- the lengths, who is by value and where, and the batches: the order in which the code looks
in_turn : (x b s t p c : Bool) → (((false || (x || b)) || s) || t) || (p || c) ≡ (b || c) || (((x || s) || t) || p)
in_turn true true s t p c = refl
in_turn true false s t p true = refl
in_turn true false s t p false = refl
in_turn false true s t p c = refl
in_turn false false true t p true = refl
in_turn false false true t p false = refl
in_turn false false false true p true = refl
in_turn false false false true p false = refl
in_turn false false false false true true = refl
in_turn false false false false true false = refl
in_turn false false false false false true = refl
in_turn false false false false false false = refl

module _ (s : BatchSemaphore) (w : Words) (gs : List ℕ) where
  view-slots : length (view_of s w).slots ≡ slot_count
  view-slots =
      sym (length-map (view_of s w).slots forget_slot) ∙ ap (λ (p : Plain). length p.slots) (forget-view s w) ∙ length-slots w.slots

  -- row 14 of the state: of who, and of the batches
  by_parts : broken (view_of s w) ≡ broken_plain (plain_in s w) || bad_batches (permits s w)
  by_parts = broken-whole (plain_in s w) _

  module _ (e : is_broken s w gs ≡ false) where
    parts : (beyond s w gs ≡ false) × (broken (view_of s w) ≡ false)
    unfolding is_broken
    parts = neither (beyond s w gs) (broken (view_of s w)) e

    pub unbroken-fit : Fit s w gs
    unfolding broken_batches
    unbroken-fit =
        let t = neither _ (stray_tasks s.head.tasks w.tasks) parts.0 in
        let ss = neither _ (stray_slots w.slots) t.0 in
        let l = neither (other_lengths w gs) _ ss.0 in
        let b = neither _ (head_beyond s.batches) l.1 in
        let n = neither (ltb max_tasks s.head.tasks) (ltb slot_count s.head.waiters.len) b.0 in
        let z = lengths w gs l.0 in
        record {
          shaped = record {
            head = record {
              tasks = ltb-false max_tasks s.head.tasks n.0;
              waiters = ltb-false slot_count s.head.waiters.len n.1;
              slot-words = z.slots;
              task-words = z.tasks;
              slots-stand = slots-stand w.slots z.slots ss.1;
              tasks-stand = λ k h. let z = all_so (task_stands w.tasks) s.head.tasks 0 t.1 k h in rw (zero-add k) at z;
            };
            formed = unbroken-formed s.batches s.head.stock w.sizes w.rows (row width w.last 0) (b.1 nor (neither (broken_plain (plain_in s w)) _ (sym by_parts ∙ parts.1)).1);
            ring = record { places = z.sizes; entries = z.rows };
            latest = z.latest;
            makers = z.makers;
            clocks = z.clocks;
          };
          grants = z.grants;
          sound = unbroken-sound (view_of s w) view-slots parts.1;
        }

  -- And back: a step that gives back what is fit gives back nothing broken.
  pub fit-unbroken : Fit s w gs → is_broken s w gs ≡ false
  unfolding is_broken
  fit-unbroken f =
      let a = f.shaped in
      let h = a.head in
      (no_other_length w gs
      (record { slots = h.slot-words; tasks = h.task-words; sizes = a.ring.places; rows = a.ring.entries; latest = a.latest; makers = a.makers; clocks = a.clocks; grants = f.grants })
      nor (le-ltb max_tasks s.head.tasks h.tasks
      nor le-ltb slot_count s.head.waiters.len h.waiters
      nor within_places s.batches a.formed)
      nor no_slot (λ x. not (row_stands (row request_words w.slots x.0))) slot_count 0 (λ x. is_not-not _ (h.slots-stand x.0))
      nor so_all (task_stands w.tasks) s.head.tasks 0 (λ k l. h.tasks-stand k (omega arith)))
      nor sound-unbroken (view_of s w) f.sound

  pub judged : (b : Bool) → b ≡ is_broken s w gs → Judged s w gs b
  judged b e = record { answer = e; fit = λ f. unbroken-fit (sym e ∙ f) }

  -- what is left to decide where no length is another
  decided : other_lengths w gs ≡ false → is_broken s w gs ≡ broken_batches s.batches (permits s w) || broken_who s.head w.slots w.tasks
  unfolding is_broken broken_batches broken_who
  decided l =
      let x = ltb max_tasks s.head.tasks || ltb slot_count s.head.waiters.len in
      (λ i. (((l i || (x || head_beyond s.batches)) || stray_slots w.slots) || stray_tasks s.head.tasks w.tasks) || by_parts i)
      ∙ in_turn x (head_beyond s.batches) (stray_slots w.slots) (stray_tasks s.head.tasks w.tasks) (broken_plain (plain_in s w)) (bad_batches (permits s w))

  -- the answer, from the parts that were asked
  module _ (a : Bool) (e : a ≡ other_lengths w gs) where
    pub lengths_wrong : a ≡ true → Judged s w gs true
    unfolding is_broken
    lengths_wrong y = judged true (rw (← e, y))

    module _ (no : a ≡ false) (b : Bool) (f : (rows : List ℕ) (c : Clock) → b ≡ broken_batches s.batches (permits_of s.head.stock s.batches w.sizes rows c)) where
      by_batches : is_broken s w gs ≡ b || broken_who s.head w.slots w.tasks
      by_batches = decided (sym e ∙ no) ∙ rw (← f w.rows (row width w.last 0))

      pub batches_wrong : b ≡ true → Judged s w gs true
      batches_wrong y = judged true (sym (by_batches ∙ rw y))

      pub who_decides : (d : Bool) → b ≡ false → d ≡ broken_who s.head w.slots w.tasks → Judged s w gs d
      who_decides d y k = judged d (k ∙ sym (by_batches ∙ rw y))
