-- A sound state's plain part is sound, and a state is sound whose plain part and permits are; what an accepted step keeps.
use Rattle.std.specs.Prelude.{None}
use Prim.Native.Nat.{ℕ}
use native.Mathlib.Omega.{arith}
use mathlib.Core.Path.{◌≡◌, sym, ap, subst, ◌∙◌}
use mathlib.Core.Bool.{false}
use lib.ListN.{length, length-map}
use Rattle.rules.specs.declared.TaskId.{TaskId}
use Rattle.rules.specs.declared.Slot.{Slot}
use Rattle.rules.specs.declared.Step.{Step}
use Rattle.rules.specs.Sizes.{slot_count}
use Rattle.rules.specs.State as S
use Rattle.rules.specs.State.{State}
use Rattle.rules.proofs.Soundness.{unbroken-sound}
use Rattle.rules.proofs.KeepsSteps.{sound-effect}
use Rattle.rules.specs.Broken.{any_of}
use Rattle.rules.specs.Sound as F
use Rattle.rules.specs.Sound.{Sound, SoundPermits}
use Rattle.splitting.specs.Plain as P
use Rattle.splitting.specs.Plain.{Plain}
use Rattle.splitting.specs.Who as W
use Rattle.splitting.specs.Times.{Times}
use Rattle.splitting.specs.Split.{forget, forget_request, forget_slot, whole, lift}
use Rattle.splitting.specs.Broken.{broken_plain}
use Rattle.splitting.specs.Fitness.{Waits, IsReserved, WellMade, SoundPlain}
use Rattle.splitting.proofs.Changes.{request-plain, used-plain, asked-plain, least-plain, of_plain, count-plain}
use Rattle.splitting.proofs.Broken.{broken-whole}
use Rattle.splitting.proofs.Whole.{forget-whole}
use Rattle.splitting.proofs.Splitting.{plain_of_lift, refusal_of_lift}

module _ (s : State) (x : Slot) where
  -- a mark of the request, with and without clocks
  mark : {A : Type 0} (f : P.Request → A) → f (P.request_at x (forget s)) ≡ f (forget_request (S.request_at x s))
  mark f = ap f (request-plain x s)

  waits-plain : F.Waits s x → Waits (forget s) x
  waits-plain w =
      record {
        below = w.below;
        used = used-plain x s ∙ w.used;
        asks = omega (arith, w.asks, asked-plain x s);
        holding = mark (λ r. r.holding) ∙ w.holding;
        completed = mark (λ r. r.completed) ∙ w.completed;
        task = omega (arith, w.task, ap (λ (t : TaskId). t.0) (of_plain x s), count-plain s);
      }

  plain-waits : Waits (forget s) x → F.Waits s x
  plain-waits w =
      record {
        below = w.below;
        used = sym (used-plain x s) ∙ w.used;
        asks = omega (arith, w.asks, asked-plain x s);
        holding = sym (mark (λ r. r.holding)) ∙ w.holding;
        completed = sym (mark (λ r. r.completed)) ∙ w.completed;
        task = omega (arith, w.task, ap (λ (t : TaskId). t.0) (of_plain x s), count-plain s);
      }

  reserves-plain : F.IsReserved s x → IsReserved (forget s) x
  reserves-plain r =
      record {
        waits = waits-plain r.waits;
        unqueued = mark (λ r. r.queued) ∙ r.unqueued;
        reserving = mark (λ r. r.ask.reserving) ∙ r.reserving;
      }

  plain-reserves : IsReserved (forget s) x → F.IsReserved s x
  plain-reserves r =
      record {
        waits = plain-waits r.waits;
        unqueued = sym (mark (λ r. r.queued)) ∙ r.unqueued;
        reserving = sym (mark (λ r. r.ask.reserving)) ∙ r.reserving;
      }

  made_plain : F.WellMade s x → WellMade (forget s) x
  made_plain m = record { unfair = m.unfair; asks = omega (arith, m.asks, asked-plain x s); least = omega (arith, m.least, asked-plain x s, least-plain x s) }

  plain-made : WellMade (forget s) x → F.WellMade s x
  plain-made m = record { unfair = m.unfair; asks = omega (arith, m.asks, asked-plain x s); least = omega (arith, m.least, asked-plain x s, least-plain x s) }

slot-count : (s : State) → length (forget s).slots ≡ length s.slots
slot-count s = length-map s.slots forget_slot

pub sound_forgets : (s : State) → Sound s → SoundPlain (forget s)
sound_forgets s h =
    record {
      slots = slot-count s ∙ h.slots;
      tasks = omega (arith, h.tasks, count-plain s);
      room = h.room;
      once = h.once;
      queued = λ x m. waits-plain s x (h.queued x m);
      marked = λ x. mark s x (λ r. r.queued) ∙ h.marked x;
      reserves = λ x e. reserves-plain s x (h.reserves x e);
      made = λ x e. made_plain s x (h.made x (sym (mark s x (λ r. r.ask.reserving)) ∙ e));
      closed = h.closed;
    }

pub sound_recalls : (s : State) → SoundPlain (forget s) → SoundPermits s.permits → Sound s
sound_recalls s h k =
    record {
      slots = sym (slot-count s) ∙ h.slots;
      tasks = omega (arith, h.tasks, count-plain s);
      room = h.room;
      once = h.once;
      queued = λ x m. plain-waits s x (h.queued x m);
      marked = λ x. sym (mark s x (λ r. r.queued)) ∙ h.marked x;
      reserves = λ x e. plain-reserves s x (h.reserves x e);
      made = λ x e. plain-made s x (h.made x (mark s x (λ r. r.ask.reserving) ∙ e));
      closed = h.closed;
      permits = k;
    }

-- the plain part of a sound whole
pub sound_part : (p : Plain) (w : Times) → Sound (whole p w) → SoundPlain p
sound_part p w h = subst SoundPlain (forget-whole p w) (sound_forgets (whole p w) h)

-- and the way back: with batches not set up, nothing more is asked
pub forget-lift : (p : Plain) → forget (lift p) ≡ p
unfolding lift
forget-lift p = forget-whole p _

lift-permits : (p : Plain) → SoundPermits (lift p).permits
unfolding lift whole
lift-permits p bs e = let z : ◌≡◌ {A = ℕ} 0 1 = cc in absurd (omega arith)

pub sound-lift : (p : Plain) → SoundPlain p → Sound (lift p)
sound-lift p h = sound_recalls (lift p) (subst SoundPlain (sym (forget-lift p)) h) (lift-permits p)

pub sound-plain-effect : (a : Step) (p : Plain) → W.refusal a p ≡ None → SoundPlain p → SoundPlain (W.effect a p).state
sound-plain-effect a p e h =
    subst SoundPlain (ap (λ (o : W.Outcome). o.state) (sym (plain_of_lift a p)))
    (sound_forgets _ (sound-effect a (lift p) (sym (refusal_of_lift a p) ∙ e) (sound-lift p h)))

-- and what 14 does not refuse is sound
pub unbroken-plain : (p : Plain) → length p.slots ≡ slot_count → broken_plain p ≡ false → SoundPlain p
unfolding lift any_of
unbroken-plain p n e =
    sound_part p _
    (unbroken-sound (lift p) (sym (slot-count (lift p)) ∙ ap (λ (q : Plain). length q.slots) (forget-lift p) ∙ n) (broken-whole p _ ∙ rw e))
