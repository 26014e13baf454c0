-- What each effect asks, from the step's not being refused on a sound state: first of a state with clocks, then of a plain one.
use Rattle.std.specs.Prelude.{None}
use Prim.Native.Nat.{ℕ, ◌-◌, ◌≤◌}
use native.Mathlib.Omega.{arith}
use mathlib.Core.Path.{◌≡◌, refl, sym, ap, subst, ◌∙◌}
use mathlib.Core.Bool.{true, false, false≢true}
use Rattle.rules.specs.declared.TaskId.{TaskId}
use Rattle.rules.specs.declared.Slot.{Slot}
use Rattle.rules.specs.declared.Priority.{Priority}
use Rattle.rules.specs.declared.Priority.TheVariants.{Back, Front}
use Rattle.rules.specs.declared.Direct.TheVariants.{Take}
use Rattle.rules.specs.declared.Polling.{Polling}
use Rattle.rules.specs.declared.Polling.TheVariants.{Holds, IsClosed, Stays, QueuesBack, QueuesFront, TakesReserved, Takes, Reserves}
use Rattle.rules.specs.declared.Dropping.{Dropping}
use Rattle.rules.specs.declared.Act.{Act}
use Rattle.rules.specs.declared.Act.TheVariants.{Acquire, AcquireBypassable, AcquireReserving, Upgrade, Poll, Try, TryUpgrade, Release, Drop, Close, Sleep, Finish}
use Rattle.rules.specs.declared.Step.{Step}
use Rattle.rules.specs.State as S
use Rattle.rules.specs.State.{State}
use Rattle.rules.specs.Polling as O
use Rattle.rules.specs.Steps as E
use Rattle.rules.specs.Refusals.{returned, refusal}
use Rattle.rules.specs.Refusals as N
use Rattle.rules.specs.Sound.{Sound}
use Rattle.rules.proofs.Slots.{used-below}
use Rattle.rules.proofs.KeepsQueue.{queue-room}
use Rattle.rules.proofs.KeepsSteps.{take-fits}
use Rattle.rules.proofs.Decisions.{PollSays, poll-says}
use Rattle.rules.proofs.Accepting.{Releasable, Pollable, Allowed, accepted}
use Rattle.splitting.specs.Plain as P
use Rattle.splitting.specs.Plain.{Plain}
use Rattle.splitting.specs.Who as W
use Rattle.splitting.specs.Split.{forget, lift}
use Rattle.splitting.specs.Fitness.{SoundPlain}
use Rattle.splitting.proofs.Changes.{asked-plain}
use Rattle.splitting.proofs.Fitness.{forget-lift, sound-lift}
use Rattle.splitting.proofs.Splitting.{refusal_of_lift}
use Rattle.splitting.proofs.Deciding.{direct-plain, polling-plain, dropping-plain}
use Rattle.choosing.specs.declared.Choice.{Choice}
use Rattle.choosing.specs.Choice.{choice_of}
use Rattle.doing.specs.Effects.{MayRelease, queues_in, MayPoll, MayDrop, Asks, Able}

module _ (s : State) where
  pub try_allowed : (k : Priority) (n : ℕ) → W.direct k n (forget s) ≡ Take → n ≤ (forget s).stock
  try_allowed k n e = take-fits k n s (sym (direct-plain k n s) ∙ e)

  pub release_allowed : (t : TaskId) (n : ℕ) → Releasable t n s → MayRelease n (forget s)
  release_allowed t n k l = k.fits l

  -- a poll: what its decision says
  module _ (x : Slot) where
    enough : (q : Polling) → PollSays q x s → O.takes_in q ≡ true → S.asked_at x s ≤ S.stock s
    enough Holds k f = absurd (false≢true f)
    enough IsClosed k f = absurd (false≢true f)
    enough Stays k f = absurd (false≢true f)
    enough QueuesBack k f = absurd (false≢true f)
    enough QueuesFront k f = absurd (false≢true f)
    enough TakesReserved k f = k.0.fits
    enough Takes k f = k.fits
    enough Reserves k f = absurd (false≢true f)

    unqueued : (q : Polling) → PollSays q x s → queues_in q ≡ true → (S.request_at x s).queued ≡ false
    unqueued Holds k f = absurd (false≢true f)
    unqueued IsClosed k f = absurd (false≢true f)
    unqueued Stays k f = absurd (false≢true f)
    unqueued QueuesBack k f = k.unqueued
    unqueued QueuesFront k f = k.0.unqueued
    unqueued TakesReserved k f = absurd (false≢true f)
    unqueued Takes k f = absurd (false≢true f)
    unqueued Reserves k f = absurd (false≢true f)

    said : PollSays (W.polling x (forget s)) x s
    said = subst (λ (q : Polling). PollSays q x s) (sym (polling-plain x s)) (poll-says x s)

    pub poll_allowed : Sound s → (t : TaskId) → Pollable t x s → MayPoll (W.polling x (forget s)) (P.asked_at x (forget s)) x (forget s)
    poll_allowed h t k =
        record {
          count = refl;
          enough = λ f. omega (arith, enough (W.polling x (forget s)) said f, asked-plain x s);
          place = λ f.
              queue-room x s (sym (h.marked x) ∙ unqueued (W.polling x (forget s)) said f) (used-below x s h.slots k.used) h;
        }

    pub drop_allowed : (t : TaskId) → Releasable t (N.gives_back x s) s → MayDrop (W.dropping x (forget s)) (W.gives_back x (forget s)) x (forget s)
    drop_allowed t k =
        record {
          count = refl;
          fits = subst (λ (n : ℕ). MayRelease n (forget s)) (sym back) k.fits;
        }
      where
        back : W.gives_back x (forget s) ≡ N.gives_back x s
        back = ap (λ (d : Dropping). returned d (P.asked_at x (forget s))) (dropping-plain x s) ∙ ap (returned (E.dropping x s)) (asked-plain x s)

-- ---- every act
asks_act : (t : TaskId) (a : Act) (s : State) → Sound s → Allowed t a s → Asks (choice_of a (forget s)) (forget s)
unfolding choice_of
asks_act t (Acquire n) s h k = tt
asks_act t (AcquireBypassable n) s h k = tt
asks_act t (AcquireReserving least n) s h k = tt
asks_act t (Upgrade held wanted) s h k = tt
asks_act t (Poll x) s h k = poll_allowed s x h t k
asks_act t (Try n) s h k = try_allowed s Back n
asks_act t (TryUpgrade held wanted) s h k = try_allowed s Front (wanted - held)
asks_act t (Release n) s h k = release_allowed s t n k
asks_act t (Drop x) s h k = drop_allowed s x t k.1
asks_act t Close s h k = tt
asks_act t Sleep s h k = tt
asks_act t Finish s h k = tt

able_state : (a : Step) (s : State) → Sound s → refusal a s ≡ None → Able (choice_of a.act (forget s)) (forget s)
able_state a s h e = record { once = h.once; asks = asks_act a.actor a.act s h (accepted a s e).allowed }

-- An accepted step on a sound plain state has what its effect asks.
pub able : (a : Step) (p : Plain) (c : Choice) → SoundPlain p → W.refusal a p ≡ None → c ≡ choice_of a.act p → Able c p
able a p c h e ec =
    subst (λ (c : Choice). Able c p) (sym ec)
    (subst (λ (q : Plain). Able (choice_of a.act q) q) (forget-lift p) (able_state a (lift p) (sound-lift p h) (sym (refusal_of_lift a p) ∙ e)))
