-- What a sound state rests on: on its permits only by what they add up to, on its tasks only by their number, and on each slot by itself. So a
-- change at one slot is sound if it is so there.
use Rattle.std.specs.Prelude.{Option, None, Some, unwrap_or, is_some}
use Prim.Native.Nat.{◌≤◌}
use native.Mathlib.Omega.{arith}
use mathlib.Core.Path.{◌≡◌, refl, sym, ap, ◌∙◌}
use mathlib.Core.Bool.{true, false}
use mathlib.Core.List.{List, []}
use lib.ListN.{length, length-set}
use Rattle.rules.specs.declared.TaskId.{TaskId}
use Rattle.rules.specs.declared.Slot.{Slot}
use Rattle.rules.specs.declared.Fairness.{Fairness}
use Rattle.rules.specs.Sizes.{max_tasks, slot_count}
use Rattle.rules.specs.Task.{Task}
use Rattle.rules.specs.Request.{Request, no_request}
use Rattle.rules.specs.State.{Permits, State, is_strict, same_slot, request_at, with_permits, with_reservation, with_tasks, alter_task}
use Rattle.rules.specs.Waking.{clear_finished, wake_unfair}
use Rattle.rules.specs.Broken.{member, twice}
use Rattle.rules.specs.Sound.{Waits, IsReserved, WellMade, SoundPermits, Sound}
use Rattle.rules.proofs.Queues.{by_slot, pigeonhole}
use Rattle.rules.proofs.Slots.{slot_at}
use Rattle.rules.proofs.Tasks.{Roused, roused-number, roused_keeps, by_cleared, rouse_unfair}

-- Sound, slot by slot.

pub record SoundAt (s : State) (x : Slot) : Type 0 where
  pub queued : member x s.queue ≡ true → Waits s x
  pub marked : (request_at x s).queued ≡ member x s.queue
  pub reserves : s.reservation ≡ Some x → IsReserved s x
  pub made : (request_at x s).ask.reserving ≡ true → WellMade s x

pub sound_at : (s : State) → Sound s → (x : Slot) → SoundAt s x
sound_at s h x = record { queued = h.queued x; marked = h.marked x; reserves = h.reserves x; made = h.made x }

-- and what it asks besides
pub record SoundWhole (s : State) : Type 0 where
  pub slots : length s.slots ≡ slot_count
  pub tasks : length s.tasks ≤ max_tasks
  pub once : twice s.queue ≡ false
  pub closed : s.closed ≡ true → (s.queue ≡ []) × (s.reservation ≡ None)
  pub permits : SoundPermits s.permits

pub sound_of : (s : State) → SoundWhole s → ((x : Slot) → SoundAt s x) → Sound s
sound_of s w h =
    record {
      slots = w.slots;
      tasks = w.tasks;
      room = pigeonhole slot_count s.queue w.once (λ x m. ((h x).queued m).below);
      once = w.once;
      queued = λ x. (h x).queued;
      marked = λ x. (h x).marked;
      reserves = λ x. (h x).reserves;
      made = λ x. (h x).made;
      closed = w.closed;
      permits = w.permits;
    }

-- A slot where nothing has changed.
pub record Alike (s b : State) (x : Slot) : Type 0 where
  pub fairness : b.fairness ≡ s.fairness
  pub tasks : length b.tasks ≡ length s.tasks
  pub slot : slot_at x b ≡ slot_at x s
  pub members : member x b.queue ≡ member x s.queue
  pub reserved : b.reservation ≡ Some x → s.reservation ≡ Some x

module _ {s b : State} {x : Slot} (k : Alike s b x) where
  alike : {A : Type 0} (f : Option Request → A) → f (slot_at x b) ≡ f (slot_at x s)
  alike f = ap f k.slot

  abbrev of : {A : Type 0} → (Request → A) → Option Request → A
  of f o = f (unwrap_or o no_request)

  waits_alike : Waits s x → Waits b x
  waits_alike w =
      record {
        below = w.below;
        used = alike (λ o. is_some o) ∙ w.used;
        asks = omega (arith, w.asks, alike (of (λ r. r.ask.asked)));
        holding = alike (of (λ r. r.holding)) ∙ w.holding;
        completed = alike (of (λ r. r.completed)) ∙ w.completed;
        task = omega (arith, w.task, k.tasks, alike (of (λ r. r.task.0)));
      }

  pub sound_alike : SoundAt s x → SoundAt b x
  sound_alike h =
      record {
        queued = λ m. waits_alike (h.queued (sym k.members ∙ m));
        marked = alike (of (λ r. r.queued)) ∙ h.marked ∙ sym k.members;
        reserves = λ e.
            let r = h.reserves (k.reserved e) in
            record {
              waits = waits_alike r.waits;
              unqueued = alike (of (λ q. q.queued)) ∙ r.unqueued;
              reserving = alike (of (λ q. q.ask.reserving)) ∙ r.reserving;
            };
        made = λ e.
            let m = h.made (sym (alike (of (λ r. r.ask.reserving))) ∙ e) in
            record {
              unfair = ap (λ (f : Fairness). is_strict f) k.fairness ∙ m.unfair;
              asks = omega (arith, m.asks, alike (of (λ r. r.ask.asked)));
              least = omega (arith, m.least, alike (of (λ r. r.ask.asked)), alike (of (λ r. r.ask.least)));
            };
      }

-- The permits count only by what they add up to, and the tasks only by their number.

pub sound-permits : (p : Permits) (s : State) → SoundPermits p → Sound s → Sound (with_permits p s)
sound-permits p s k h =
    sound_of (with_permits p s) (record { slots = h.slots; tasks = h.tasks; once = h.once; closed = h.closed; permits = k })
    (λ x. sound_alike (record { fairness = refl; tasks = refl; slot = refl; members = refl; reserved = λ e. e }) (sound_at s h x))

pub sound-tasks : (ts : List Task) (s : State) → length ts ≡ length s.tasks → Sound s → Sound (with_tasks ts s)
sound-tasks ts s e h =
    sound_of (with_tasks ts s) (record { slots = h.slots; tasks = omega (arith, h.tasks); once = h.once; closed = h.closed; permits = h.permits })
    (λ x. sound_alike (record { fairness = refl; tasks = e; slot = refl; members = refl; reserved = λ f. f }) (sound_at s h x))

pub sound_alter_task : (t : TaskId) (f : Task → Task) (s : State) → Sound s → Sound (alter_task t f s)
sound_alter_task t f s h = sound-tasks _ s (length-set s.tasks t.0 _) h

pub sound-roused : {s b : State} → Roused s b → Sound s → Sound b
sound-roused {s} r h = roused_keeps Sound r (sound-tasks r.tasks s (roused-number r) h)

-- A reservation cleared.

pub sound_unreserved : (s : State) → Sound s → Sound (with_reservation None s)
sound_unreserved s h =
    sound_of (with_reservation None s)
    (record { slots = h.slots; tasks = h.tasks; once = h.once; closed = λ e. ((h.closed e).0, refl); permits = h.permits })
    (λ x. sound_alike (record { fairness = refl; tasks = refl; slot = refl; members = refl; reserved = λ e. cc }) (sound_at s h x))

pub sound_cleared : (s : State) → Sound s → Sound (clear_finished s)
sound_cleared s h = by_cleared Sound s h (sound_unreserved s h)

pub sound_wake : (s : State) → Sound s → Sound (wake_unfair s)
sound_wake s h = sound-roused (rouse_unfair s) (sound_cleared s h)

-- A change at one slot.

-- b is s but for the slot x
pub record Beside (x : Slot) (s b : State) : Type 0 where
  pub fairness : b.fairness ≡ s.fairness
  pub tasks : length b.tasks ≡ length s.tasks
  pub slots : length b.slots ≡ length s.slots
  pub others : (y : Slot) → same_slot x y ≡ false → slot_at y b ≡ slot_at y s
  pub members : (y : Slot) → same_slot x y ≡ false → member y b.queue ≡ member y s.queue
  pub reserved : (y : Slot) → same_slot x y ≡ false → b.reservation ≡ Some y → s.reservation ≡ Some y
  pub once : twice b.queue ≡ false
  pub closed : b.closed ≡ true → (b.queue ≡ []) × (b.reservation ≡ None)
  pub permits : SoundPermits b.permits

pub sound_beside : (x : Slot) (s b : State) → Sound s → Beside x s b → SoundAt b x → Sound b
sound_beside x s b h k a =
    sound_of b (
    record {
      slots = k.slots ∙ h.slots;
      tasks = omega (arith, h.tasks, k.tasks);
      once = k.once;
      closed = k.closed;
      permits = k.permits;
    }
    )
    (by_slot (SoundAt b) x a (λ y e.
    sound_alike (record { fairness = k.fairness; tasks = k.tasks; slot = k.others y e; members = k.members y e; reserved = k.reserved y e })
    (sound_at s h y)))
