-- Document 01's row 14 in two parts: what is broken in the plain part, its clauses grouped by what they look at, and in the batches.
use Rattle.std.specs.Prelude.{ℕ, Bool, false, not, ◌&&◌, ◌||◌, List, leb, ltb, eqb, length, get_or, Option, None, Some}
use Rattle.std.specs.Bool.{beq}
use Rattle.rules.specs.declared.Slot.{Slot}
use Rattle.rules.specs.Sizes.{max_tasks, slot_count, batch_count}
use Rattle.rules.specs.State.{Batch}
use Rattle.rules.specs.Refusals.{bad_reserving}
use Rattle.rules.specs.Broken.{any_of, member, twice, every_slot, reserved_slots, set_up_batches, is_beyond, is_empty_batch, differs, non_empty}
use Rattle.splitting.specs.Plain.{Request, Plain, strict, reserved, in_use, request_at}

-- holding or completed, or naming none of n tasks
abbrev pub cannot_wait : ℕ → Request → Bool
cannot_wait n r = r.holding || r.completed || leb n r.task.0

-- of n tasks, strictly fair or not, and named by the queue or not: in use, and marked other than named, reserving as 6 or 7 would refuse, or
-- named and asking for nothing or unable to wait
abbrev pub misfits : ℕ → Bool → Bool → Option Request → Bool
misfits n fair named None = false
misfits n fair named (Some r) =
    not (beq r.queued named)
    || (r.ask.reserving && (fair || bad_reserving r.ask.least r.ask.asked))
    || (named && (eqb r.ask.asked 0 || cannot_wait n r))

abbrev pub is_misfit : Plain → Slot → Bool
is_misfit p x = misfits (length p.tasks) (strict p) (member x p.queue) (get_or p.slots x.0 None)

abbrev pub is_free : Plain → Slot → Bool
is_free p x = not (in_use x p)

-- has the reservation, and is free, queued, not reserving or unable to wait
abbrev pub cannot_reserve : Plain → Slot → Bool
cannot_reserve p x =
    not (in_use x p) || (request_at x p).queued || not (request_at x p).ask.reserving || cannot_wait (length p.tasks) (request_at x p)

unfoldable pub broken_plain : Plain → Bool
broken_plain p =
    ltb max_tasks (length p.tasks)
    || ltb slot_count (length p.queue)
    -- a queue naming a slot beyond, a free one or one twice
    || (any_of is_beyond p.queue || any_of (is_free p) p.queue || twice p.queue)
    -- what stands in the slots, against the queue
    || any_of (is_misfit p) every_slot
    -- the reservation
    || any_of (λ x. is_beyond x || cannot_reserve p x) (reserved_slots p.reservation)
    || (p.closed && (non_empty p.queue || reserved p))

-- batches beyond their size, a batch of 0, or not adding up to the stock
abbrev pub bad_batches : ℕ → Option (List Batch) → Bool
bad_batches n o = ltb batch_count (length (set_up_batches o)) || any_of is_empty_batch (set_up_batches o) || differs n o
