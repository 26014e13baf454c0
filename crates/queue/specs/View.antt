-- What the queue stands for, and what is said of it.
use Rattle.std.specs.Prelude.{◌≤◌, ◌≡◌, List, take}
use Rattle.rules.specs.declared.Slot.{Slot}
use Rattle.queue.specs.declared.Waiters.{Waiters}

-- the first `len` places
unfoldable pub waiters_of : Waiters → List Slot
waiters_of w = take w.len w.slots

-- what is read where no slot stands
abbrev pub slot0 : Slot
slot0 = record { 0 = 0 }

-- a queue that fits its array and stands for q
pub record Holds (w : Waiters) (q : List Slot) : Type 0 where
  pub fits : w.len ≤ 32
  pub view : waiters_of w ≡ q
