-- Document 01, "Steps": what a poll does, by cases; the effect of each case; and the marks that a poll leaves.
use Rattle.std.specs.Prelude.{Bool, true, false, cond, ◌&&◌, ◌||◌, List, [], ◌∷◌, leb, ltb, None, Some}
use Rattle.rules.specs.declared.TaskId.{TaskId}
use Rattle.rules.specs.declared.Slot.{Slot}
use Rattle.rules.specs.declared.Grant.{Grant}
use Rattle.rules.specs.declared.Taker.TheVariants.{BySlot}
use Rattle.rules.specs.declared.Priority.{Priority}
use Rattle.rules.specs.declared.Priority.TheVariants.{Back, Bypassable, Front}
use Rattle.rules.specs.declared.Direct.{Direct}
use Rattle.rules.specs.declared.Direct.TheVariants.{Shut, NoPermits, Take}
use Rattle.rules.specs.declared.Polling.{Polling}
use Rattle.rules.specs.declared.Polling.TheVariants.{Holds, IsClosed, Stays, QueuesBack, QueuesFront, TakesReserved, Takes, Reserves}
use Rattle.rules.specs.declared.Polled.{Polled}
use Rattle.rules.specs.declared.Polled.TheVariants.{Granted, Closed, Pending}
use Rattle.rules.specs.Request.{Request, polled_granted, polled_closed, polled_pending}
use Rattle.rules.specs.State.{State, strict, stock, reserved, has_reservation, request_at, asked_at, with_reservation, ◌▷◌}
use Rattle.rules.specs.Taking.{take_as, direct}
use Rattle.rules.specs.Scan.{queue_back, queue_front, leave}
use Rattle.rules.specs.Waking.{wake_unfair, reblock}

-- queue unless queued: Front in front, others at the back
abbrev pub queues : Priority → Bool → Polling
queues k true = Stays
queues Back false = QueuesBack
queues Bypassable false = QueuesBack
queues Front false = QueuesFront

-- Reserving requests: if it has the reservation, stock below the ask is Pending, else clear it, take, wake the unfair. If anyone has
-- the reservation or stock is below the least, queue at the back unless queued. If the stock covers the ask, take. Otherwise take
-- the reservation.
unfoldable pub poll_reserving : Slot → Request → State → Polling
poll_reserving x r s =
    cond (has_reservation x s) (cond (ltb (stock s) r.ask.asked) Stays TakesReserved)
    (cond (reserved s || ltb (stock s) r.ask.least) (queues Back r.queued)
    (cond (leb r.ask.asked (stock s)) Takes
    Reserves))

abbrev pub by_direct : Direct → Request → Polling
by_direct Shut r = IsClosed
by_direct NoPermits r = queues r.ask.kind r.queued
by_direct Take r = Takes

-- Plain requests: a queued one on a strictly fair semaphore is Pending; else direct rule, then as success or Pending.
unfoldable pub poll_plain : Request → State → Polling
poll_plain r s = cond (r.queued && strict s) Stays (by_direct (direct r.ask.kind r.ask.asked s) r)

-- Poll: holding answers Granted; closed answers Closed.
unfoldable pub polling : Slot → State → Polling
polling x s =
    let r = request_at x s in
    cond r.holding Holds
    (cond s.closed IsClosed
    (cond r.ask.reserving (poll_reserving x r s)
    (poll_plain r s)))

-- what each case does to the state
unfoldable pub poll_work : Polling → TaskId → Slot → State → State
poll_work Holds t x s = s
poll_work IsClosed t x s = s
poll_work Stays t x s = s
poll_work QueuesBack t x s = queue_back x s
poll_work QueuesFront t x s = queue_front x s
poll_work TakesReserved t x s = s ▷ with_reservation None ▷ take_as t (asked_at x s) ▷ wake_unfair
poll_work Takes t x s = s ▷ take_as t (asked_at x s) ▷ leave x ▷ reblock t
poll_work Reserves t x s = s ▷ leave x ▷ with_reservation (Some x) ▷ reblock t

-- whether it takes
abbrev pub takes_in : Polling → Bool
takes_in Holds = false
takes_in IsClosed = false
takes_in Stays = false
takes_in QueuesBack = false
takes_in QueuesFront = false
takes_in TakesReserved = true
takes_in Takes = true
takes_in Reserves = false

-- one grant for each taking; the actor joined
abbrev pub poll_grants : Polling → TaskId → Slot → State → List Grant
poll_grants p t x s = cond (takes_in p) (record { taker = BySlot x; count = asked_at x s; task = t } ∷ []) []

-- the answer of a poll
abbrev pub polled : Polling → Polled
polled Holds = Granted
polled IsClosed = Closed
polled Stays = Pending
polled QueuesBack = Pending
polled QueuesFront = Pending
polled TakesReserved = Granted
polled Takes = Granted
polled Reserves = Pending

-- Each poll marks the request polled; Granted also holding and completed, Closed completed; Pending records the actor as its task.
abbrev pub poll_mark : Polled → TaskId → Request → Request
poll_mark Granted t r = polled_granted r
poll_mark Closed t r = polled_closed r
poll_mark Pending t r = polled_pending t r
