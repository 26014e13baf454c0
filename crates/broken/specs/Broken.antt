-- Document 01's row 14 for what is handed in: arrays of another length, counts past their arrays, words that stand for nothing, or a broken state.
use Rattle.std.specs.Prelude.{ℕ, ◌*◌, ◌≡◌, Bool, false, not, ◌||◌, List, ltb, eqb, length, get_or, Option, None, is_some, unwrap_or}
use Rattle.rules.specs.declared.Slot.{Slot}
use Rattle.rules.specs.Sizes.{max_tasks, slot_count, batch_count, width}
use Rattle.rules.specs.Broken.{any_of, every_slot, is_beyond, broken}
use Rattle.splitting.specs.Plain.{Request, no_request}
use Rattle.splitting.specs.Broken.{cannot_wait, broken_plain}
use Rattle.tables.specs.Table.{row, table}
use Rattle.words.specs.View.{request_words, task_words, row_stands, task_stands}
use Rattle.head.specs.declared.Head.{Head}
use Rattle.head.specs.View.{plain_of}
use Rattle.batches.specs.Broken.{head_beyond}
use Rattle.state.specs.declared.BatchSemaphore.{BatchSemaphore}
use Rattle.state.specs.View.{Words, view_of, Fit}

-- words that stand for nothing: of a slot, a mark of use that no case has, or in use a kind or another mark; of a task, a state or a mark.
-- A free slot's other words and tasks past the count are no part of the state.
abbrev pub stray_slots : List ℕ → Bool
stray_slots ss = any_of (λ (x : Slot). not (row_stands (row request_words ss x.0))) every_slot

abbrev pub stray_tasks : ℕ → List ℕ → Bool
stray_tasks n ts = any_of not (table (task_stands ts) 0 n)

abbrev pub other_length : List ℕ → ℕ → Bool
other_length l n = not (eqb (length l) n)

-- a lent array of another length
abbrev pub other_lengths : Words → List ℕ → Bool
other_lengths w gs =
    other_length w.slots (slot_count * request_words)
    || other_length w.tasks (max_tasks * task_words)
    || other_length w.sizes batch_count
    || other_length w.rows (batch_count * width)
    || other_length w.last width
    || other_length w.makers (slot_count * width)
    || other_length w.clocks (max_tasks * width)
    || other_length gs (slot_count * 3)

-- what stands for no state: also tasks, queue or ring beyond their sizes, where what the arrays hold does not show it
abbrev pub beyond : BatchSemaphore → Words → List ℕ → Bool
beyond s w gs =
    other_lengths w gs
    || (ltb max_tasks s.head.tasks || ltb slot_count s.head.waiters.len || head_beyond s.batches)
    || stray_slots w.slots
    || stray_tasks s.head.tasks w.tasks

unfoldable pub is_broken : BatchSemaphore → Words → List ℕ → Bool
is_broken s w gs = beyond s w gs || broken (view_of s w)

-- the answer is row 14's, both ways; and where it is no, what is handed in is fit for a step
pub record Judged (s : BatchSemaphore) (w : Words) (gs : List ℕ) (b : Bool) : Type 0 where
  pub answer : b ≡ is_broken s w gs
  pub fit : b ≡ false → Fit s w gs

-- Parts, as the code asks for them.

-- has the reservation, and is beyond the slots, free, queued, not reserving or unable to wait
abbrev pub misreserved : ℕ → List (Option Request) → Slot → Bool
misreserved n rs x =
    let o = get_or rs x.0 None in
    let r = unwrap_or o no_request in
    is_beyond x || (not (is_some o) || r.queued || not r.ask.reserving || cannot_wait n r)

-- all but the lengths and the batches
unfoldable pub broken_who : Head → List ℕ → List ℕ → Bool
broken_who h ss ts =
    ltb max_tasks h.tasks || ltb slot_count h.waiters.len || stray_slots ss || stray_tasks h.tasks ts || broken_plain (plain_of h ss ts)
