-- Each change of a request, of the queue and of the reservation that the rules make keeps a state sound.
use Rattle.std.specs.Prelude.{Option, None, Some, unwrap_or}
use Prim.Native.Nat.{ℕ, ◌<◌}
use native.Mathlib.Omega.{arith}
use mathlib.Core.Path.{◌≡◌, refl, sym, ap, subst, ◌∙◌}
use mathlib.Core.Bool.{true, false, false≢true}
use mathlib.Core.List.{List, [], ◌∷◌, ◌++◌}
use lib.ListN.{length, set, length-set}
use Rattle.rules.specs.declared.TaskId.{TaskId}
use Rattle.rules.specs.declared.Slot.{Slot}
use Rattle.rules.specs.declared.Ask.{Ask}
use Rattle.rules.specs.Sizes.{slot_count}
use Rattle.rules.specs.Request.{Request, no_request, queued_as, polled_pending}
use Rattle.rules.specs.State.{State, same_slot, is_the, has_reservation, in_use, request_at, with_queue, with_reservation, with_slots, alter_request, close}
use Rattle.rules.specs.Scan.{without, leave}
use Rattle.rules.specs.Steps.{free}
use Rattle.rules.specs.Broken.{member, twice}
use Rattle.rules.specs.Sound.{Waits, IsReserved, WellMade, Sound}
use Rattle.rules.proofs.Bools.{by_test, clash}
use Rattle.rules.proofs.Queues.{same-slot, slot_same, member-behind, member-before, member_middle, once_cons, once_snoc, without-empty, member-without, gone_without, once-without, pigeonhole}
use Rattle.rules.proofs.Slots.{used-below, slot-set, slot_beside, request-altered, used-altered, altered_beside, field_altered, field_set}
use Rattle.rules.proofs.Acting.{MayMake}
use Rattle.rules.proofs.Keeping.{Beside, sound_at, sound_of, sound_alike, sound_beside}

-- Requests that wait.

-- a request that may be queued or reserved, where there are n tasks
pub record CanWait (n : ℕ) (r : Request) : Type 0 where
  pub asks : 0 < r.ask.asked
  pub holding : r.holding ≡ false
  pub completed : r.completed ≡ false
  pub task : r.task.0 < n

pub can_wait : {s : State} {x : Slot} → Waits s x → CanWait (length s.tasks) (request_at x s)
can_wait w = record { asks = w.asks; holding = w.holding; completed = w.completed; task = w.task }

module _ (x : Slot) (f : Request → Request) (s : State) where
  waits-altered : length s.slots ≡ slot_count → in_use x s ≡ true → CanWait (length s.tasks) (f (request_at x s)) → Waits (alter_request x f s) x
  waits-altered n u c =
      let e = request-altered x f s u in
      record {
        below = used-below x s n u;
        used = used-altered x f s ∙ u;
        asks = omega (arith, c.asks, ap (λ (r : Request). r.ask.asked) e);
        holding = ap (λ (r : Request). r.holding) e ∙ c.holding;
        completed = ap (λ (r : Request). r.completed) e ∙ c.completed;
        task = omega (arith, c.task, ap (λ (r : Request). r.task.0) e);
      }

  module _ (same-ask : (r : Request) → (f r).ask ≡ r.ask) where
    ask-altered : {A : Type 0} (g : Ask → A) → g (request_at x (alter_request x f s)).ask ≡ g (request_at x s).ask
    ask-altered g = field_altered (λ (r : Request). g r.ask) x f s (λ r. ap g (same-ask r))

    -- a well-made request stays so where its ask stays
    made-altered : ((request_at x s).ask.reserving ≡ true → WellMade s x)
        → (request_at x (alter_request x f s)).ask.reserving ≡ true → WellMade (alter_request x f s) x
    made-altered h e =
        let m = h (sym (ask-altered (λ (a : Ask). a.reserving)) ∙ e) in
        record {
          unfair = m.unfair;
          asks = omega (arith, m.asks, ask-altered (λ (a : Ask). a.asked));
          least = omega (arith, m.least, ask-altered (λ (a : Ask). a.asked), ask-altered (λ (a : Ask). a.least));
        }

-- the queue and the reservation as they were
altered_only : (x : Slot) (f : Request → Request) (s : State) → Sound s → Beside x s (alter_request x f s)
altered_only x f s h =
    record {
      fairness = refl;
      tasks = refl;
      slots = length-set s.slots x.0 _;
      others = λ y e. altered_beside x y f s e;
      members = λ y e. refl;
      reserved = λ y e r. r;
      once = h.once;
      closed = h.closed;
      permits = h.permits;
    }

-- a slot that has not the reservation is not the one reserved
not_the_one : (x : Slot) (o : Option Slot) → is_the x o ≡ false → o ≡ Some x → {X : Type 0} → X
not_the_one x None e r = let z : ◌≡◌ {A = ℕ} 0 1 = cc in absurd (omega arith)
not_the_one x (Some y) e r = let z : y ≡ x = cc in clash (slot_same x y (sym z)) e

-- A request that does not wait may hold, complete, and be of any task.
pub sound_aside : (x : Slot) (f : Request → Request) (s : State)
    → ((r : Request) → (f r).ask ≡ r.ask) → ((r : Request) → (f r).queued ≡ r.queued)
    → member x s.queue ≡ false → has_reservation x s ≡ false → Sound s → Sound (alter_request x f s)
sound_aside x f s a q m v h =
    sound_beside x s (alter_request x f s) h (altered_only x f s h) (
    record {
      queued = λ e. clash e m;
      marked = field_altered (λ (r : Request). r.queued) x f s q ∙ h.marked x;
      reserves = λ e. not_the_one x s.reservation v e;
      made = made-altered x f s a (h.made x);
    }
    )

-- A Pending poll records the actor as the task of a request, waiting or not.
pub sound_pending : (x : Slot) (t : TaskId) (s : State) → t.0 < length s.tasks → Sound s → Sound (alter_request x (polled_pending t) s)
sound_pending x t s l h =
    sound_beside x s b h (altered_only x (polled_pending t) s h) (
    record {
      queued = λ m. waits (h.queued x m);
      marked = mark ∙ h.marked x;
      reserves = λ e.
          let r = h.reserves x e in
          record {
            waits = waits r.waits;
            unqueued = mark ∙ r.unqueued;
            reserving = ask-altered x (polled_pending t) s (λ q. refl) (λ (a : Ask). a.reserving) ∙ r.reserving;
          };
      made = made-altered x (polled_pending t) s (λ r. refl) (h.made x);
    }
    )
  where
    b : State
    b = alter_request x (polled_pending t) s

    mark : (request_at x b).queued ≡ (request_at x s).queued
    mark = field_altered (λ (r : Request). r.queued) x (polled_pending t) s (λ r. refl)

    waits : Waits s x → Waits b x
    waits w =
        waits-altered x (polled_pending t) s h.slots w.used
        (record { asks = w.asks; holding = w.holding; completed = w.completed; task = l })

-- Leaving the queue, in it or not.
pub sound-leave : (x : Slot) (s : State) → Sound s → Sound (leave x s)
sound-leave x s h =
    sound_beside x s b h (
    record {
      fairness = refl;
      tasks = refl;
      slots = length-set s.slots x.0 _;
      others = λ y e. altered_beside x y (queued_as false) s e;
      members = λ y e. member-without y x s.queue e;
      reserved = λ y e r. r;
      once = once-without x s.queue h.once;
      closed = λ e. (without-empty x s.queue (h.closed e).0, (h.closed e).1);
      permits = h.permits;
    }
    ) (
    record {
      queued = λ m. clash m out;
      marked = mark ∙ sym out;
      reserves = λ e.
          let r = h.reserves x e in
          record {
            waits =
                waits-altered x (queued_as false) (with_queue (without x s.queue) s) h.slots r.waits.used (
                record {
                  asks = r.waits.asks;
                  holding = r.waits.holding;
                  completed = r.waits.completed;
                  task = r.waits.task;
                }
                );
            unqueued = mark;
            reserving = ask-altered x (queued_as false) s (λ q. refl) (λ (a : Ask). a.reserving) ∙ r.reserving;
          };
      made = λ e.
          let m = made-altered x (queued_as false) s (λ r. refl) (h.made x) e in
          record { unfair = m.unfair; asks = m.asks; least = m.least };
    }
    )
  where
    b : State
    b = leave x s

    out : member x b.queue ≡ false
    out = gone_without x s.queue h.once

    mark : (request_at x b).queued ≡ false
    mark = field_set (λ (r : Request). r.queued) false x (queued_as false) s (λ r. refl) refl

-- Joining the queue: q is the queue with x in it.
pub record Joins (x : Slot) (s : State) (q : List Slot) : Type 0 where
  pub within : member x q ≡ true
  pub others : (y : Slot) → same_slot x y ≡ false → member y q ≡ member y s.queue
  pub once : twice q ≡ false

pub joins_back : (x : Slot) (s : State) → Sound s → member x s.queue ≡ false → Joins x s (s.queue ++ x ∷ [])
joins_back x s h m =
    record {
      within = member_middle x s.queue [];
      others = λ y e. member-behind y s.queue x e;
      once = once_snoc s.queue x h.once m;
    }

pub joins_front : (x : Slot) (s : State) → Sound s → member x s.queue ≡ false → Joins x s (x ∷ s.queue)
joins_front x s h m =
    record {
      within = member_middle x [] s.queue;
      others = λ y e. member-before y s.queue x e;
      once = once_cons x s.queue m h.once;
    }

-- a request that may join the queue, once f has changed it
pub record MayJoin (x : Slot) (f : Request → Request) (s : State) : Type 0 where
  pub used : in_use x s ≡ true
  pub unreserved : has_reservation x s ≡ false
  pub «open» : s.closed ≡ false
  pub ask : (r : Request) → (f r).ask ≡ r.ask
  pub queued : (r : Request) → (f r).queued ≡ true
  pub waits : CanWait (length s.tasks) (f (request_at x s))

pub sound-joined : (x : Slot) (f : Request → Request) (s : State) (q : List Slot)
    → MayJoin x f s → Joins x s q → Sound s → Sound (alter_request x f (with_queue q s))
sound-joined x f s q k j h =
    sound_beside x s b h (
    record {
      fairness = refl;
      tasks = refl;
      slots = length-set s.slots x.0 _;
      others = λ y e. altered_beside x y f s e;
      members = j.others;
      reserved = λ y e r. r;
      once = j.once;
      closed = λ e. clash e k.«open»;
      permits = h.permits;
    }
    ) (
    record {
      queued = λ m. waits-altered x f (with_queue q s) h.slots k.used k.waits;
      marked = ap (λ (r : Request). r.queued) (request-altered x f s k.used) ∙ k.queued (request_at x s) ∙ sym j.within;
      reserves = λ e. not_the_one x s.reservation k.unreserved e;
      made = λ e.
          let m = made-altered x f s k.ask (h.made x) e in
          record { unfair = m.unfair; asks = m.asks; least = m.least };
    }
    )
  where
    b : State
    b = alter_request x f (with_queue q s)

-- the queue has room for every slot that is not in it
pub queue-room : (x : Slot) (s : State) → member x s.queue ≡ false → x.0 < slot_count → Sound s → length s.queue < slot_count
queue-room x s m l h =
    pigeonhole slot_count (x ∷ s.queue) (once_cons x s.queue m h.once)
    (λ y e.
    by_test (same_slot x y)
    (λ f. subst (λ (z : Slot). z.0 < slot_count) (same-slot x y f) l)
    (λ f. (h.queued y (sym (member-before y s.queue x f) ∙ e)).below))

-- Taking the reservation, with a Pending poll's mark: nobody has it, and x leaves the queue.
pub sound-reserved : (x : Slot) (t : TaskId) (s : State)
    → in_use x s ≡ true → (request_at x s).ask.reserving ≡ true → (request_at x s).holding ≡ false → (request_at x s).completed ≡ false
    → s.closed ≡ false → t.0 < length s.tasks → Sound s
    → Sound (alter_request x (polled_pending t) (with_reservation (Some x) (leave x s)))
sound-reserved x t s u r g c o l h =
    sound_beside x a b (sound-leave x s h) (
    record {
      fairness = refl;
      tasks = refl;
      slots = length-set a.slots x.0 _;
      others = λ y e. altered_beside x y (polled_pending t) a e;
      members = λ y e. refl;
      reserved = λ y e f. let z : x ≡ y = cc in clash (slot_same x y z) e;
      once = once-without x s.queue h.once;
      closed = λ e. clash e o;
      permits = h.permits;
    }
    ) (
    record {
      queued = λ m. clash m (gone_without x s.queue h.once);
      marked = mark ∙ sym (gone_without x s.queue h.once);
      reserves = λ e.
          record {
            waits = waits-altered x (polled_pending t) (with_reservation (Some x) a) (sound-leave x s h).slots used-left (
                record {
                  asks = omega (arith, (h.made x r).asks, ap (λ (q : Request). q.ask.asked) left);
                  holding = ap (λ (q : Request). q.holding) left ∙ g;
                  completed = ap (λ (q : Request). q.completed) left ∙ c;
                  task = l;
                }
                );
            unqueued = mark;
            reserving = still (λ (k : Ask). k.reserving) ∙ r;
          };
      made = λ e.
          let m = h.made x r in
          record {
            unfair = m.unfair;
            asks = omega (arith, m.asks, still (λ (k : Ask). k.asked));
            least = omega (arith, m.least, still (λ (k : Ask). k.asked), still (λ (k : Ask). k.least));
          };
    }
    )
  where
    a : State
    a = leave x s

    b : State
    b = alter_request x (polled_pending t) (with_reservation (Some x) a)

    left : request_at x a ≡ queued_as false (request_at x s)
    left = request-altered x (queued_as false) s u

    used-left : in_use x a ≡ true
    used-left = used-altered x (queued_as false) s ∙ u

    mark : (request_at x b).queued ≡ false
    mark = field_altered (λ (q : Request). q.queued) x (polled_pending t) a (λ q. refl) ∙ ap (λ (q : Request). q.queued) left

    still : {A : Type 0} (g : Ask → A) → g (request_at x b).ask ≡ g (request_at x s).ask
    still g = ask-altered x (polled_pending t) a (λ q. refl) g ∙ ap (λ (q : Request). g q.ask) left

-- A slot freed, and a slot filled.

module _ (x : Slot) (o : Option Request) (s : State) where
  abbrev pub filled : State
  filled = with_slots (set s.slots x.0 o) s

  filled_only : Sound s → Beside x s filled
  filled_only h =
      record {
        fairness = refl;
        tasks = refl;
        slots = length-set s.slots x.0 o;
        others = λ y e. slot_beside x y o s e;
        members = λ y e. refl;
        reserved = λ y e r. r;
        once = h.once;
        closed = h.closed;
        permits = h.permits;
      }

  -- what is put there waits for nothing, and is well made if it reserves
  pub sound_filled : x.0 < slot_count → member x s.queue ≡ false → has_reservation x s ≡ false
      → (unwrap_or o no_request).queued ≡ false → ((unwrap_or o no_request).ask.reserving ≡ true → MayMake (unwrap_or o no_request).ask s)
      → Sound s → Sound filled
  sound_filled l m v q w h =
      sound_beside x s filled h (filled_only h) (
      record {
        queued = λ e. clash e m;
        marked = read (λ r. r.queued) ∙ q ∙ sym m;
        reserves = λ e. not_the_one x s.reservation v e;
        made = λ e.
            let k = w (sym (read (λ r. r.ask.reserving)) ∙ e) in
            record {
              unfair = k.0;
              asks = omega (arith, k.1, read (λ r. r.ask.asked));
              least = omega (arith, k.2, read (λ r. r.ask.asked), read (λ r. r.ask.least));
            };
      }
      )
    where
      read : {A : Type 0} (g : Request → A) → g (request_at x filled) ≡ g (unwrap_or o no_request)
      read g = ap (λ (p : Option Request). g (unwrap_or p no_request)) (slot-set x o s (omega (arith, h.slots)))

pub sound-free : (x : Slot) (s : State) → x.0 < slot_count → member x s.queue ≡ false → has_reservation x s ≡ false → Sound s → Sound (free x s)
sound-free x s l m v h = sound_filled x None s l m v refl (λ e. absurd (false≢true e)) h

-- Who is not queued, and who has not the reservation.

pub has_reservation_lem : (x : Slot) (s : State) → has_reservation x s ≡ true → s.reservation ≡ Some x
has_reservation_lem x s e = go s.reservation e
  where
    go : (o : Option Slot) → is_the x o ≡ true → o ≡ Some x
    go None f = absurd (false≢true f)
    go (Some y) f = ap (λ (z : Slot). Some z) (sym (same-slot x y f))

pub not-reserved : (x : Slot) (s : State) → Sound s → (IsReserved s x → ⊥) → has_reservation x s ≡ false
not-reserved x s h k = by_test (has_reservation x s) (λ e. absurd (k (h.reserves x (has_reservation_lem x s e)))) (λ e. e)

pub not-queued : (x : Slot) (s : State) → Sound s → (Waits s x → ⊥) → member x s.queue ≡ false
not-queued x s h k = by_test (member x s.queue) (λ m. absurd (k (h.queued x m))) (λ m. m)

pub queued_unreserved : (x : Slot) (s : State) → Sound s → member x s.queue ≡ true → has_reservation x s ≡ false
queued_unreserved x s h m = not-reserved x s h (λ r. clash (h.marked x ∙ m) r.unqueued)

-- Closing, once the queue and the reservation are empty.
pub sound-close : (s : State) → s.queue ≡ [] → s.reservation ≡ None → Sound s → Sound (close s)
sound-close s q v h =
    sound_of (close s) (record { slots = h.slots; tasks = h.tasks; once = h.once; closed = λ e. (q, v); permits = h.permits })
    (λ x. sound_alike (record { fairness = refl; tasks = refl; slot = refl; members = refl; reserved = λ e. e }) (sound_at s h x))
