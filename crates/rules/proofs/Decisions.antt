-- What the decisions of the rules say: the direct rule, a poll, a drop, a release.
use Prim.Native.Nat.{ℕ, ◌≤◌, ◌<◌}
use mathlib.Core.Path.{◌≡◌, refl}
use mathlib.Core.Bool.{Bool, true, false, not, ◌&&◌, ◌||◌}
use borrow.Author.Tests.{ltb-false, leb-true, eqb-true}
use lib.Dec.{leb, ltb, eqb}
use Rattle.rules.specs.declared.TaskId.{TaskId}
use Rattle.rules.specs.declared.Slot.{Slot}
use Rattle.rules.specs.declared.Priority.{Priority}
use Rattle.rules.specs.declared.Priority.TheVariants.{Back, Bypassable, Front}
use Rattle.rules.specs.declared.Direct.{Direct}
use Rattle.rules.specs.declared.Direct.TheVariants.{Shut, NoPermits, Take}
use Rattle.rules.specs.declared.Polling.{Polling}
use Rattle.rules.specs.declared.Polling.TheVariants.{Holds, IsClosed, Stays, QueuesBack, QueuesFront, TakesReserved, Takes, Reserves}
use Rattle.rules.specs.declared.Dropping.{Dropping}
use Rattle.rules.specs.declared.Dropping.TheVariants.{Leaving, Unreserving, Returning, Nothing}
use Rattle.rules.specs.Request.{is_front}
use Rattle.rules.specs.State.{State, strict, stock, reserved, has_reservation, request_at, asked_at, least_at}
use Rattle.rules.specs.Taking.{all_bypassable, direct}
use Rattle.rules.specs.Polling.{queues, poll_reserving, by_direct, poll_plain, polling}
use Rattle.rules.specs.Scan.{Granting, leave, scan}
use Rattle.rules.specs.Waking.{wake_unfair}
use Rattle.rules.specs.Steps.{ungranted, add_released, release, dropping, is_first, front_bypassable, drop_queued}
use Rattle.rules.proofs.Bools.{by_cond, clash, neither, both, and_other, positive}

-- The direct rule.

-- whether it takes where the stock suffices
abbrev pub may_pass : Priority → State → Bool
may_pass k s = all_bypassable s.queue s || not (strict s) || is_front k

abbrev pub DirectSays : Direct → Priority → ℕ → State → Type 0
DirectSays Shut k n s = s.closed ≡ true
DirectSays NoPermits k n s = (s.closed ≡ false) × (reserved s ≡ false → (may_pass k s && leb n (stock s)) ≡ false)
DirectSays Take k n s = (s.closed ≡ false) × (reserved s ≡ false) × (may_pass k s ≡ true) × (n ≤ stock s)

pub direct-says : (k : Priority) (n : ℕ) (s : State) → DirectSays (direct k n s) k n s
unfolding direct
direct-says k n s =
    by_cond (λ d. DirectSays d k n s) s.closed (λ c. c) (λ c.
    by_cond (λ d. DirectSays d k n s) (reserved s) (λ r. (c, λ u. clash r u)) (λ r.
    by_cond (λ d. DirectSays d k n s) (may_pass k s && leb n (stock s)) {x = Take} {y = NoPermits}
    (λ e. let b = both (may_pass k s) (leb n (stock s)) e in (c, r, b.0, leb-true n (stock s) b.1))
    (λ e. (c, λ u. e))))

-- A poll.

-- the request joins the queue: in front or not
pub record Queueing (front : Bool) (x : Slot) (s : State) : Type 0 where
  pub holding : (request_at x s).holding ≡ false
  pub «open» : s.closed ≡ false
  pub unqueued : (request_at x s).queued ≡ false
  pub unreserved : (request_at x s).ask.reserving ≡ true → has_reservation x s ≡ false
  pub denied : (request_at x s).ask.reserving ≡ false → DirectSays NoPermits (request_at x s).ask.kind (asked_at x s) s
  pub kind : (request_at x s).ask.reserving ≡ false → is_front (request_at x s).ask.kind ≡ front

-- it takes: with the reservation or not
pub record Taking (has : Bool) (x : Slot) (s : State) : Type 0 where
  pub holding : (request_at x s).holding ≡ false
  pub «open» : s.closed ≡ false
  pub fits : asked_at x s ≤ stock s
  pub reservation : (request_at x s).ask.reserving ≡ true → has_reservation x s ≡ has
  pub plain : (request_at x s).ask.reserving ≡ false → ((request_at x s).queued && strict s) ≡ false

-- it takes the reservation
pub record Reserving (x : Slot) (s : State) : Type 0 where
  pub holding : (request_at x s).holding ≡ false
  pub «open» : s.closed ≡ false
  pub nobody : reserved s ≡ false
  pub reserving : (request_at x s).ask.reserving ≡ true

abbrev pub PollSays : Polling → Slot → State → Type 0
PollSays Holds x s = (request_at x s).holding ≡ true
PollSays IsClosed x s = ((request_at x s).holding ≡ false) × (s.closed ≡ true)
PollSays Stays x s = s.closed ≡ false
PollSays QueuesBack x s = Queueing false x s
PollSays QueuesFront x s = Queueing true x s × ((request_at x s).ask.reserving ≡ false)
PollSays TakesReserved x s = Taking true x s × ((request_at x s).ask.reserving ≡ true)
PollSays Takes x s = Taking false x s
PollSays Reserves x s = Reserving x s

by_queues : (X : Polling → Type 0) (k : Priority) (b : Bool)
    → X Stays → (b ≡ false → is_front k ≡ false → X QueuesBack) → (b ≡ false → is_front k ≡ true → X QueuesFront) → X (queues k b)
by_queues X Back true s b f = s
by_queues X Back false s b f = b refl refl
by_queues X Bypassable true s b f = s
by_queues X Bypassable false s b f = b refl refl
by_queues X Front true s b f = s
by_queues X Front false s b f = f refl refl

module _ (x : Slot) (s : State) (h : (request_at x s).holding ≡ false) (o : s.closed ≡ false) where
  reserving-says : (request_at x s).ask.reserving ≡ true → PollSays (poll_reserving x (request_at x s) s) x s
  unfolding poll_reserving
  reserving-says r =
      by_cond (λ p. PollSays p x s) (has_reservation x s)
      (λ v.
      by_cond (λ p. PollSays p x s) (ltb (stock s) (asked_at x s)) (λ l. o) (λ l. (
        record {
          holding = h;
          «open» = o;
          fits = ltb-false (stock s) (asked_at x s) l;
          reservation = λ e. v;
          plain = λ e. clash r e;
        },
        r,
      )))
      (λ v.
      by_cond (λ p. PollSays p x s) (reserved s || ltb (stock s) (least_at x s))
      (λ w.
      by_queues (λ p. PollSays p x s) Back (request_at x s).queued o
      (λ q f.
      record {
        holding = h;
        «open» = o;
        unqueued = q;
        unreserved = λ e. v;
        denied = λ e. clash r e;
        kind = λ e. clash r e;
      })
      (λ q f. clash f refl))
      (λ w.
      by_cond (λ p. PollSays p x s) (leb (asked_at x s) (stock s))
      (λ l.
      record {
        holding = h;
        «open» = o;
        fits = leb-true (asked_at x s) (stock s) l;
        reservation = λ e. v;
        plain = λ e. clash r e;
      })
      (λ l. record { holding = h; «open» = o; nobody = (neither (reserved s) (ltb (stock s) (least_at x s)) w).0; reserving = r })))

  direct-poll : (d : Direct) → ((request_at x s).queued && strict s) ≡ false → (request_at x s).ask.reserving ≡ false
      → DirectSays d (request_at x s).ask.kind (asked_at x s) s → PollSays (by_direct d (request_at x s)) x s
  direct-poll Shut q p k = (h, k)
  direct-poll NoPermits q p k =
      by_queues (λ d. PollSays d x s) (request_at x s).ask.kind (request_at x s).queued o (λ u f. queueing false u f) (λ u f. (queueing true u f, p))
    where
      queueing : (front : Bool) → (request_at x s).queued ≡ false → is_front (request_at x s).ask.kind ≡ front → Queueing front x s
      queueing front u f = record { holding = h; «open» = o; unqueued = u; unreserved = λ e. clash e p; denied = λ e. k; kind = λ e. f }
  direct-poll Take q p k = record { holding = h; «open» = o; fits = k.3; reservation = λ e. clash e p; plain = λ e. q }

  plain-says : (request_at x s).ask.reserving ≡ false → PollSays (poll_plain (request_at x s) s) x s
  unfolding poll_plain
  plain-says p =
      by_cond (λ d. PollSays d x s) ((request_at x s).queued && strict s) (λ q. o)
      (λ q. direct-poll (direct (request_at x s).ask.kind (asked_at x s) s) q p (direct-says (request_at x s).ask.kind (asked_at x s) s))

pub poll-says : (x : Slot) (s : State) → PollSays (polling x s) x s
unfolding polling
poll-says x s =
    by_cond (λ p. PollSays p x s) (request_at x s).holding (λ h. h) (λ h.
    by_cond (λ p. PollSays p x s) s.closed (λ c. (h, c)) (λ o.
    by_cond (λ p. PollSays p x s) (request_at x s).ask.reserving (λ r. reserving-says x s h o r) (λ p. plain-says x s h o p)))

-- A drop.

-- holding and not completed
abbrev pub unfulfilled : Slot → State → Bool
unfulfilled x s = (request_at x s).holding && not (request_at x s).completed

abbrev pub DropSays : Dropping → Slot → State → Type 0
DropSays Leaving x s = (request_at x s).queued ≡ true
DropSays Unreserving x s = ((request_at x s).queued ≡ false) × (has_reservation x s ≡ true)
DropSays Returning x s = ((request_at x s).queued ≡ false) × (has_reservation x s ≡ false) × (unfulfilled x s ≡ true)
DropSays Nothing x s = ((request_at x s).queued ≡ false) × (has_reservation x s ≡ false) × (unfulfilled x s ≡ false)

pub drop-says : (x : Slot) (s : State) → DropSays (dropping x s) x s
unfolding dropping
drop-says x s =
    by_cond (λ d. DropSays d x s) (request_at x s).queued (λ q. q) (λ q.
    by_cond (λ d. DropSays d x s) (has_reservation x s) (λ v. (q, v)) (λ v.
    by_cond (λ d. DropSays d x s) (unfulfilled x s) (λ e. (q, v, e)) (λ e. (q, v, e))))

-- a queued request dropped: where no scan follows, it was not first, and the new front is not Bypassable
pub by_drop-queued : (X : Granting → Type 0) (x : Slot) (s : State)
    → X (scan (leave x s))
    → ((strict s ≡ true → (is_first x s.queue ≡ false) × (front_bypassable (leave x s).queue (leave x s) ≡ false)) → X (ungranted (leave x s)))
    → X (drop_queued x s)
unfolding drop_queued
by_drop-queued X x s f g =
    by_cond X (strict s && (is_first x s.queue || front_bypassable (leave x s).queue (leave x s))) (λ e. f)
    (λ e. g (λ k. neither (is_first x s.queue) _ (and_other (strict s) _ e k)))

-- A release: of nothing; on a strictly fair semaphore; on an unfair one.
pub by_release : (X : Granting → Type 0) (t : TaskId) (n : ℕ) (s : State)
    → (n ≡ 0 → X (ungranted s))
    → (0 < n → strict s ≡ true → X (scan (add_released t n s)))
    → (0 < n → strict s ≡ false → X (ungranted (wake_unfair (add_released t n s))))
    → X (release t n s)
unfolding release
by_release X t n s z f g =
    by_cond X (eqb n 0) (λ e. z (eqb-true n 0 e)) (λ e. by_cond X (strict s) (λ k. f (positive n e) k) (λ k. g (positive n e) k))
