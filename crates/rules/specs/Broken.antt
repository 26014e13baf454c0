-- Document 01, "Replies by number", row 14: what is broken in what is handed in. `broken` judges the state that the words handed in stand for. Words that
-- stand for no state (a count past the size of its array, a kind, a task's state or a mark that no case has, an array of another length) are judged
-- before it, by a clause of the code's own.
use Rattle.std.specs.Prelude.{ℕ, zero, suc, ◌+◌, Bool, true, false, not, ◌&&◌, ◌||◌, List, [], ◌∷◌, leb, ltb, eqb, length, Option, None, Some}
use Rattle.std.specs.Bool.{beq}
use Rattle.rules.specs.declared.Slot.{Slot}
use Rattle.rules.specs.Sizes.{max_tasks, slot_count, batch_count}
use Rattle.rules.specs.State.{Batch, State, strict, stock, reserved, same_slot, in_use, request_at, asked_at, least_at, task_of}
use Rattle.rules.specs.Refusals.{bad_reserving}

-- whether some element meets a test
unfoldable pub any_of : {A : Type 0} → (A → Bool) → List A → Bool
any_of p [] = false
any_of p (x ∷ xs) = p x || any_of p xs

-- whether a slot stands in a list
abbrev pub member : Slot → List Slot → Bool
member x q = any_of (same_slot x) q

-- whether a slot stands in a list twice
unfoldable pub twice : List Slot → Bool
twice [] = false
twice (x ∷ q) = member x q || twice q

-- n slots, from number i on
unfoldable pub slots_from : ℕ → ℕ → List Slot
slots_from zero i = []
slots_from (suc n) i = record { 0 = i } ∷ slots_from n (suc i)

abbrev pub every_slot : List Slot
every_slot = slots_from slot_count 0

-- the slots that the reservation names
abbrev pub reserved_slots : Option Slot → List Slot
reserved_slots None = []
reserved_slots (Some x) = x ∷ []

-- the batches, none where they are not yet set up
abbrev pub set_up_batches : Option (List Batch) → List Batch
set_up_batches None = []
set_up_batches (Some bs) = bs

unfoldable pub total : List Batch → ℕ
total [] = 0
total (b ∷ bs) = b.size + total bs

-- The clauses of row 14, in its order.

abbrev pub is_beyond : Slot → Bool
is_beyond x = leb slot_count x.0

abbrev pub is_free : State → Slot → Bool
is_free s x = not (in_use x s)

abbrev pub is_mis_marked : State → Slot → Bool
is_mis_marked s x = in_use x s && not (beq (request_at x s).queued (member x s.queue))

abbrev pub cannot_reserve : State → Slot → Bool
cannot_reserve s x = not (in_use x s) || (request_at x s).queued || not (request_at x s).ask.reserving

abbrev pub is_mis_made : State → Slot → Bool
is_mis_made s x = (request_at x s).ask.reserving && (strict s || bad_reserving (least_at x s) (asked_at x s))

abbrev pub asks_nothing : State → Slot → Bool
asks_nothing s x = eqb (asked_at x s) 0

abbrev pub cannot_wait : State → Slot → Bool
cannot_wait s x = (request_at x s).holding || (request_at x s).completed || leb (length s.tasks) (task_of x s).0

abbrev pub is_empty_batch : Batch → Bool
is_empty_batch b = eqb b.size 0

abbrev pub differs : ℕ → Option (List Batch) → Bool
differs n None = false
differs n (Some bs) = not (eqb (total bs) n)

abbrev pub non_empty : List Slot → Bool
non_empty [] = false
non_empty (x ∷ q) = true

unfoldable pub broken : State → Bool
broken s =
    -- tasks, queue, batches or a named slot beyond their sizes
    ltb max_tasks (length s.tasks)
    || ltb slot_count (length s.queue)
    || ltb batch_count (length (set_up_batches s.permits.batches))
    || any_of is_beyond s.queue || any_of is_beyond (reserved_slots s.reservation)
    -- a queue naming a free slot or one twice
    || any_of (is_free s) s.queue || twice s.queue
    -- queued marks that differ from the queue
    || any_of (is_mis_marked s) every_slot
    -- a reservation that is free, queued or not reserving
    || any_of (cannot_reserve s) (reserved_slots s.reservation)
    -- a reserving request that 6 or 7 would refuse
    || any_of (is_mis_made s) every_slot
    -- a queued ask of 0
    || any_of (asks_nothing s) s.queue
    -- a queued or reserved request holding or completed, or naming no task
    || any_of (cannot_wait s) s.queue || any_of (cannot_wait s) (reserved_slots s.reservation)
    -- closed with a queue or reservation
    || (s.closed && (non_empty s.queue || reserved s))
    -- a batch of 0, or set-up batches not adding up to the stock
    || any_of is_empty_batch (set_up_batches s.permits.batches) || differs (stock s) s.permits.batches
