-- A state is sound exactly when 14 does not refuse it.
use Rattle.std.specs.Prelude.{Option, None, Some, is_some}
use Prim.Native.Nat.{◌<◌}
use native.Mathlib.Omega.{arith}
use native.Mathlib.Decide.{dec_lt}
use mathlib.Core.Path.{◌≡◌, refl, sym, ap, subst, ◌∙◌}
use mathlib.Core.Bool.{Bool, true, false, not, ◌&&◌, ◌||◌, true≢false}
use mathlib.Core.List.{List, [], ◌∷◌}
use borrow.Author.Tests.{ltb-false, leb-false, eqb-true, le-ltb, lt-leb, eq-eqb, not-false}
use lib.Dec.{ltb, eqb}
use lib.ListN.{length}
use Rattle.rules.specs.declared.Slot.{Slot}
use Rattle.rules.specs.Sizes.{max_tasks, slot_count, batch_count}
use Rattle.rules.specs.Request.{Request}
use Rattle.rules.specs.State.{Batch, State, strict, stock, reserved, in_use, request_at, asked_at, least_at, task_of}
use Rattle.rules.specs.Refusals.{bad_reserving}
use Rattle.rules.specs.Broken.{any_of, member, twice, every_slot, reserved_slots, set_up_batches, total, is_beyond, is_free, is_mis_marked, cannot_reserve, is_mis_made, asks_nothing, cannot_wait, is_empty_batch, differs, non_empty, broken}
use Rattle.rules.specs.Sound.{Waits, IsReserved, WellMade, SoundPermits, Sound}
use Rattle.rules.proofs.Bools.{by_test, clash, neither, ◌nor◌, not_both, and_other, is_not-not, beq_same, same_beq, positive, not-zero}
use Rattle.rules.proofs.Slots.{free-request, past_unused, used-below}
use Rattle.rules.proofs.Queues.{none_of, no_member, member_fails, slot_fails, no_slot}

-- the clauses of row 14, in its order
pub record Clauses (s : State) : Type 0 where
  pub tasks : ltb max_tasks (length s.tasks) ≡ false
  pub queue : ltb slot_count (length s.queue) ≡ false
  pub batches : ltb batch_count (length (set_up_batches s.permits.batches)) ≡ false
  pub beyond : any_of is_beyond s.queue ≡ false
  pub reserved-beyond : any_of is_beyond (reserved_slots s.reservation) ≡ false
  pub free : any_of (is_free s) s.queue ≡ false
  pub once : twice s.queue ≡ false
  pub marks : any_of (is_mis_marked s) every_slot ≡ false
  pub reserves : any_of (cannot_reserve s) (reserved_slots s.reservation) ≡ false
  pub made : any_of (is_mis_made s) every_slot ≡ false
  pub asks : any_of (asks_nothing s) s.queue ≡ false
  pub waits : any_of (cannot_wait s) s.queue ≡ false
  pub reserved-waits : any_of (cannot_wait s) (reserved_slots s.reservation) ≡ false
  pub closed : (s.closed && (non_empty s.queue || reserved s)) ≡ false
  pub sizes : any_of is_empty_batch (set_up_batches s.permits.batches) ≡ false
  pub sum : differs (stock s) s.permits.batches ≡ false

pub clauses : (s : State) → broken s ≡ false → Clauses s
unfolding broken
clauses s e =
    let c16 = neither _ _ e in
    let c15 = neither _ _ c16.0 in
    let c14 = neither _ _ c15.0 in
    let c13 = neither _ _ c14.0 in
    let c12 = neither _ _ c13.0 in
    let c11 = neither _ _ c12.0 in
    let c10 = neither _ _ c11.0 in
    let c9 = neither _ _ c10.0 in
    let c8 = neither _ _ c9.0 in
    let c7 = neither _ _ c8.0 in
    let c6 = neither _ _ c7.0 in
    let c5 = neither _ _ c6.0 in
    let c4 = neither _ _ c5.0 in
    let c3 = neither _ _ c4.0 in
    let c2 = neither _ _ c3.0 in
    record {
      tasks = c2.0;
      queue = c2.1;
      batches = c3.1;
      beyond = c4.1;
      reserved-beyond = c5.1;
      free = c6.1;
      once = c7.1;
      marks = c8.1;
      reserves = c9.1;
      made = c10.1;
      asks = c11.1;
      waits = c12.1;
      reserved-waits = c13.1;
      closed = c14.1;
      sizes = c15.1;
      sum = c16.1;
    }

pub unbroken : (s : State) → Clauses s → broken s ≡ false
unfolding broken
unbroken s c =
    c.tasks nor c.queue nor c.batches nor c.beyond nor c.reserved-beyond nor c.free nor c.once nor c.marks nor c.reserves
    nor c.made nor c.asks nor c.waits nor c.reserved-waits nor c.closed nor c.sizes nor c.sum

module _ (s : State) (n : length s.slots ≡ slot_count) (c : Clauses s) where
  waits : (x : Slot) → is_beyond x ≡ false → in_use x s ≡ true → 0 < asked_at x s → cannot_wait s x ≡ false → Waits s x
  waits x b u a w =
      let k = neither _ _ w in
      let h = neither (request_at x s).holding (request_at x s).completed k.0 in
      record {
        below = leb-false slot_count x.0 b;
        used = u;
        asks = a;
        holding = h.0;
        completed = h.1;
        task = leb-false (length s.tasks) (task_of x s).0 k.1;
      }

  queued : (x : Slot) → member x s.queue ≡ true → Waits s x
  queued x m =
      waits x (member_fails is_beyond s.queue c.beyond x m)
      (not-false (in_use x s) (member_fails (is_free s) s.queue c.free x m))
      (positive (asked_at x s) (member_fails (asks_nothing s) s.queue c.asks x m))
      (member_fails (cannot_wait s) s.queue c.waits x m)

  made : (x : Slot) → (request_at x s).ask.reserving ≡ true → WellMade s x
  made x r =
      elim (dec_lt x.0 slot_count) [
        | yes l ↦
            let k =
            neither (strict s) (bad_reserving (least_at x s) (asked_at x s))
            (and_other (request_at x s).ask.reserving _ (slot_fails (is_mis_made s) slot_count 0 c.made x (omega arith) l) r)
            in
            let b = neither (eqb (asked_at x s) 0) (ltb (asked_at x s) (least_at x s)) k.1 in
            record { unfair = k.0; asks = positive (asked_at x s) b.0; least = ltb-false (asked_at x s) (least_at x s) b.1 }
        | no l ↦ clash r (ap (λ (q : Request). q.ask.reserving) (free-request x s (past_unused x s n (omega arith))))
      ]

  reserved_one : (p : Slot → Bool) (x : Slot) → any_of p (reserved_slots s.reservation) ≡ false → s.reservation ≡ Some x → p x ≡ false
  reserved_one p x f e = (none_of p x [] (subst (λ (o : Option Slot). any_of p (reserved_slots o) ≡ false) e f)).0

  reserves : (x : Slot) → s.reservation ≡ Some x → IsReserved s x
  reserves x e =
      let k = neither _ _ (reserved_one (cannot_reserve s) x c.reserves e) in
      let u = neither (not (in_use x s)) (request_at x s).queued k.0 in
      let r = not-false (request_at x s).ask.reserving k.1 in
      record {
        waits =
            waits x (reserved_one is_beyond x c.reserved-beyond e) (not-false (in_use x s) u.0) (made x r).asks
            (reserved_one (cannot_wait s) x c.reserved-waits e);
        unqueued = u.1;
        reserving = r;
      }

  marked : (x : Slot) → (request_at x s).queued ≡ member x s.queue
  marked x =
      by_test (in_use x s)
      (λ u.
      beq_same _ _ (not-false _ (and_other (in_use x s) _ (slot_fails (is_mis_marked s) slot_count 0 c.marks x (omega arith) (used-below x s n u)) u)))
      (λ u.
      ap (λ (r : Request). r.queued) (free-request x s u)
      ∙ by_test (member x s.queue) (λ m. clash (queued x m).used u) (λ m. sym m))

  both_empty : (q : List Slot) (o : Option Slot) → (non_empty q || is_some o) ≡ false → (q ≡ []) × (o ≡ None)
  both_empty [] None e = (refl, refl)
  both_empty [] (Some x) e = absurd (true≢false e)
  both_empty (y ∷ q) o e = absurd (true≢false e)

  permits : SoundPermits s.permits
  permits bs e =
      record {
        room =
            ltb-false batch_count (length bs) (subst (λ (o : Option (List Batch)). ltb batch_count (length (set_up_batches o)) ≡ false) e c.batches);
        sizes = subst (λ (o : Option (List Batch)). any_of is_empty_batch (set_up_batches o) ≡ false) e c.sizes;
        sum = eqb-true (total bs) (stock s) (not-false _ (subst (λ (o : Option (List Batch)). differs (stock s) o ≡ false) e c.sum));
      }

  pub clauses_sound : Sound s
  clauses_sound =
      record {
        slots = n;
        tasks = ltb-false max_tasks (length s.tasks) c.tasks;
        room = ltb-false slot_count (length s.queue) c.queue;
        once = c.once;
        queued = queued;
        marked = marked;
        reserves = reserves;
        made = made;
        closed = λ e. both_empty s.queue s.reservation (and_other s.closed _ c.closed e);
        permits = permits;
      }

pub unbroken-sound : (s : State) → length s.slots ≡ slot_count → broken s ≡ false → Sound s
unbroken-sound s n e = clauses_sound s n (clauses s e)

-- And back.

module _ (s : State) (h : Sound s) where
  fails_reserved : (p : Slot → Bool) → ((x : Slot) → IsReserved s x → p x ≡ false)
      → (o : Option Slot) → s.reservation ≡ o → any_of p (reserved_slots o) ≡ false
  unfolding any_of
  fails_reserved p f None e = refl
  fails_reserved p f (Some x) e = f x (h.reserves x e) nor refl

  fails_queued : (p : Slot → Bool) → ((x : Slot) → Waits s x → p x ≡ false) → any_of p s.queue ≡ false
  fails_queued p f = no_member p s.queue (λ x m. f x (h.queued x m))

  in_range : (x : Slot) → Waits s x → is_beyond x ≡ false
  in_range x w = lt-leb slot_count x.0 w.below

  may_wait : (x : Slot) → Waits s x → cannot_wait s x ≡ false
  may_wait x w = w.holding nor w.completed nor lt-leb (length s.tasks) (task_of x s).0 w.task

  well_made_lem : (x : Slot) → is_mis_made s x ≡ false
  well_made_lem x =
      not_both (request_at x s).ask.reserving _
      (λ r. let m = h.made x r in m.unfair nor (not-zero (asked_at x s) m.asks nor le-ltb (asked_at x s) (least_at x s) m.least))

  closed-empty : (s.closed && (non_empty s.queue || reserved s)) ≡ false
  closed-empty =
      not_both s.closed _
      (λ e. let k = h.closed e in ap (λ (q : List Slot). non_empty q) k.0 nor ap (λ (o : Option Slot). is_some o) k.1)

  batches_add_up : (o : Option (List Batch)) → s.permits.batches ≡ o
      → (ltb batch_count (length (set_up_batches o)) ≡ false) × (any_of is_empty_batch (set_up_batches o) ≡ false) × (differs (stock s) o ≡ false)
  unfolding any_of
  batches_add_up None e = (refl, refl, refl)
  batches_add_up (Some bs) e =
      let a = h.permits bs e in
      (le-ltb batch_count (length bs) a.room, a.sizes, is_not-not _ (eq-eqb (total bs) (stock s) a.sum))

  sound_clauses : Clauses s
  sound_clauses =
      let b = batches_add_up s.permits.batches refl in
      record {
        tasks = le-ltb max_tasks (length s.tasks) h.tasks;
        queue = le-ltb slot_count (length s.queue) h.room;
        batches = b.0;
        beyond = fails_queued is_beyond in_range;
        reserved-beyond = fails_reserved is_beyond (λ x r. in_range x r.waits) s.reservation refl;
        free = fails_queued (is_free s) (λ x w. is_not-not _ w.used);
        once = h.once;
        marks = no_slot (is_mis_marked s) slot_count 0 (λ x. not_both (in_use x s) _ (λ u. is_not-not _ (same_beq _ _ (h.marked x))));
        reserves =
            fails_reserved (cannot_reserve s) (λ x r. is_not-not _ r.waits.used nor r.unqueued nor is_not-not _ r.reserving)
            s.reservation refl;
        made = no_slot (is_mis_made s) slot_count 0 well_made_lem;
        asks = fails_queued (asks_nothing s) (λ x w. not-zero (asked_at x s) w.asks);
        waits = fails_queued (cannot_wait s) may_wait;
        reserved-waits = fails_reserved (cannot_wait s) (λ x r. may_wait x r.waits) s.reservation refl;
        closed = closed-empty;
        sizes = b.1;
        sum = b.2;
      }

  pub sound-unbroken : broken s ≡ false
  sound-unbroken = unbroken s sound_clauses
