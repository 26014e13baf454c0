-- Document 01's row 14, the part of it that batches can break: batches beyond their sizes, a batch of 0, or set-up batches not adding
-- up to the stock. All of it is the rules' on what the ring stands for, but for a ring whose head is none of its places.
use Rattle.std.specs.Prelude.{ℕ, Bool, false, ◌||◌, List, leb, ltb, length}
use Rattle.std.specs.Option.{option_map_or}
use Rattle.rules.specs.Sizes.{batch_count}
use Rattle.rules.specs.Clock.{Clock}
use Rattle.rules.specs.State.{Permits}
use Rattle.rules.specs.Broken.{any_of, set_up_batches, is_empty_batch, differs}
use Rattle.batches.specs.declared.PermitClocks.{PermitClocks}
use Rattle.batches.specs.declared.Batches.{Batches}
use Rattle.batches.specs.View.{stands_in}

-- the permits of a semaphore: stock, ring, sizes, rows, and the clock of the last taking
abbrev pub permits_of : ℕ → Batches → List ℕ → List ℕ → Clock → Permits
permits_of k b sizes rows c = record { stock = k; batches = stands_in b sizes rows; last = c }

abbrev pub head_beyond : Batches → Bool
head_beyond b = option_map_or (λ (q : PermitClocks). leb batch_count q.head) b.permit_clocks false

abbrev pub bad_batches : Permits → Bool
bad_batches v =
    ltb batch_count (length (set_up_batches v.batches))
    || any_of is_empty_batch (set_up_batches v.batches) || differs v.stock v.batches

-- a ring, and the permits that it stands for
unfoldable pub broken_batches : Batches → Permits → Bool
broken_batches b v = head_beyond b || bad_batches v
