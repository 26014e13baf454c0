-- The key invariants (2) to (6) that the source's comment on `BatchSemaphoreState` lists (batch_semaphore.rs, lines 266 to 290), in the
-- rules' words. (1) is no part of row 14: it is the promise `NobodyStranded`, about every run from a fresh state.
use Rattle.std.specs.Prelude.{◌≡◌, true, false, [], None, Some}
use Rattle.rules.specs.declared.Slot.{Slot}
use Rattle.rules.specs.State.{State, strict, request_at}
use Rattle.rules.specs.Broken.{member}

-- what (5) says of the slot that has the reservation
pub record HasReservation (s : State) (x : Slot) : Type 0 where
  -- the semaphore is unfair
  pub unfair : strict s ≡ false
  -- !R.is_queued
  pub unqueued : (request_at x s).queued ≡ false
  -- !R.has_permits
  pub lacks : (request_at x s).holding ≡ false

pub record KeyInvariants (s : State) : Type 0 where
  -- (2) W is in waiters iff W.is_queued
  pub queued : (x : Slot) → member x s.queue ≡ (request_at x s).queued
  -- (3) W.is_queued ==> !W.has_permits
  pub lacks : (x : Slot) → (request_at x s).queued ≡ true → (request_at x s).holding ≡ false
  -- (4) closed ==> waiters.is_empty()
  pub closed-empty : s.closed ≡ true → s.queue ≡ []
  -- (5) if `reservation` is `Some(R)`, then the semaphore is unfair, and !R.is_queued && !R.has_permits
  pub reserved : (x : Slot) → s.reservation ≡ Some x → HasReservation s x
  -- (6) closed ==> reservation.is_none()
  pub closed_unreserved : s.closed ≡ true → s.reservation ≡ None
