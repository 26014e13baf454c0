-- What is left alone: the permits by waking, reblocking and closing; and the fairness by every step.
use Rattle.std.specs.Prelude.{Option, None, Some}
use Prim.Native.Nat.{ℕ}
use mathlib.Core.Path.{◌≡◌, refl, ◌∙◌}
use mathlib.Core.List.{List, [], ◌∷◌}
use Rattle.rules.specs.declared.TaskId.{TaskId}
use Rattle.rules.specs.declared.Slot.{Slot}
use Rattle.rules.specs.declared.Grant.{Grant}
use Rattle.rules.specs.declared.Direct.{Direct}
use Rattle.rules.specs.declared.Direct.TheVariants.{Shut, NoPermits, Take}
use Rattle.rules.specs.declared.Polling.{Polling}
use Rattle.rules.specs.declared.Polling.TheVariants.{Holds, IsClosed, Stays, QueuesBack, QueuesFront, TakesReserved, Takes, Reserves}
use Rattle.rules.specs.declared.Dropping.{Dropping}
use Rattle.rules.specs.declared.Dropping.TheVariants.{Leaving, Unreserving, Returning, Nothing}
use Rattle.rules.specs.declared.Act.{Act}
use Rattle.rules.specs.declared.Step.{Step}
use Rattle.rules.specs.State.{State, asked_at, with_reservation}
use Rattle.rules.specs.Taking.{take_as, direct}
use Rattle.rules.specs.Scan.{leave, walk, scan}
use Rattle.rules.specs.Waking.{wake_unfair}
use Rattle.rules.specs.Polling.{polling, poll_work}
use Rattle.rules.specs.Steps.{make, try_by, poll, add_released, release, dropping, drop_work, drop_request, empty_queue, drop_reservation, closing, effect_of}
use Rattle.rules.specs.Runs.{step}
use Rattle.rules.proofs.Accepting.{Allowed, accepted}
use Rattle.rules.proofs.Acting.{by_act}
use Rattle.rules.proofs.Tasks.{Roused, roused_keeps, by_cleared, rouse_unfair, rouse_unfinished, reblocks}
use Rattle.rules.proofs.Decisions.{by_release, by_drop-queued}
use Rattle.rules.proofs.KeepsScan.{by_walk, granted_fairness}
use Rattle.rules.proofs.KeepsSteps.{by_closing, by_refusal}

pub record Untouched (s b : State) : Type 0 where
  pub fairness : b.fairness ≡ s.fairness
  pub permits : b.permits ≡ s.permits

untouched : (s : State) → Untouched s s
untouched s = record { fairness = refl; permits = refl }

untouched_then : {a b c : State} → Untouched a b → Untouched b c → Untouched a c
untouched_then p q = record { fairness = q.fairness ∙ p.fairness; permits = q.permits ∙ p.permits }

pub untouched_roused : {s b : State} → Roused s b → Untouched s b
untouched_roused {s} r = roused_keeps (Untouched s) r (record { fairness = refl; permits = refl })

pub untouched_wake : (s : State) → Untouched s (wake_unfair s)
untouched_wake s =
    untouched_then (by_cleared (Untouched s) s (untouched s) (record { fairness = refl; permits = refl })) (untouched_roused (rouse_unfair s))

untouched_empty : (q : List Slot) (s : State) → Untouched s (empty_queue q s)
unfolding empty_queue
untouched_empty [] s = untouched s
untouched_empty (x ∷ q) s =
    untouched_then (record { fairness = refl; permits = refl })
    (untouched_then (untouched_roused (rouse_unfinished x (leave x s))) (untouched_empty q _))

pub untouched_closing : (s : State) → Untouched s (closing s)
untouched_closing s =
    by_closing (Untouched s) s (untouched s) (λ o.
    let k = untouched_then (untouched_empty s.queue s) (go s.reservation) in
    record { fairness = k.fairness; permits = k.permits })
  where
    go : (o : Option Slot) → Untouched (empty_queue s.queue s) (drop_reservation o (empty_queue s.queue s))
    go None = untouched (empty_queue s.queue s)
    go (Some x) =
        untouched_then (record { fairness = refl; permits = refl })
        (untouched_roused (rouse_unfinished x (with_reservation None (empty_queue s.queue s))))

-- Fairness.

pub fairness-walk : (q : List Slot) (s : State) (gs : List Grant) → (walk q s gs).state.fairness ≡ s.fairness
fairness-walk q s gs =
    by_walk {P = λ l b hs. b.fairness ≡ s.fairness} {R = λ g. g.state.fairness ≡ s.fairness} (
    record {
      leaves = λ x l b hs k e. e;
      fits = λ x l b hs k e. granted_fairness x b ∙ e;
      passed = λ x l b hs k e. e;
      ends = λ x l b hs k e. e;
      over = λ b hs e. e;
    }
    )
    q s gs refl

fairness-scan : (s : State) → (scan s).state.fairness ≡ s.fairness
unfolding scan
fairness-scan s = fairness-walk s.queue s []

fairness-take : (t : TaskId) (n : ℕ) (s : State) → (take_as t n s).fairness ≡ s.fairness
unfolding take_as
fairness-take t n s = refl

fairness-poll : (p : Polling) (t : TaskId) (x : Slot) (s : State) → (poll_work p t x s).fairness ≡ s.fairness
unfolding poll_work
fairness-poll Holds t x s = refl
fairness-poll IsClosed t x s = refl
fairness-poll Stays t x s = refl
fairness-poll QueuesBack t x s = refl
fairness-poll QueuesFront t x s = refl
fairness-poll TakesReserved t x s =
    let a = with_reservation None s in
    (untouched_wake (take_as t (asked_at x s) a)).fairness ∙ fairness-take t (asked_at x s) a
fairness-poll Takes t x s = (untouched_roused (reblocks t (leave x (take_as t (asked_at x s) s)))).fairness ∙ fairness-take t (asked_at x s) s
fairness-poll Reserves t x s = (untouched_roused (reblocks t (with_reservation (Some x) (leave x s)))).fairness

fairness_try : (d : Direct) (t : TaskId) (n : ℕ) (s : State) → (try_by d t n s).state.fairness ≡ s.fairness
unfolding try_by
fairness_try Shut t n s = refl
fairness_try NoPermits t n s = refl
fairness_try Take t n s = (untouched_roused (reblocks t (take_as t n s))).fairness ∙ fairness-take t n s

pub fairness-release : (t : TaskId) (n : ℕ) (s : State) → (release t n s).state.fairness ≡ s.fairness
fairness-release t n s =
    by_release (λ g. g.state.fairness ≡ s.fairness) t n s (λ e. refl)
    (λ l f. fairness-scan (add_released t n s)) (λ l f. (untouched_wake (add_released t n s)).fairness)

pub fairness-drop : (d : Dropping) (t : TaskId) (x : Slot) (s : State) → (drop_work d t x s).state.fairness ≡ s.fairness
unfolding drop_work
fairness-drop Leaving t x s = by_drop-queued (λ g. g.state.fairness ≡ s.fairness) x s (fairness-scan (leave x s)) (λ e. refl)
fairness-drop Unreserving t x s = (untouched_wake (with_reservation None s)).fairness
fairness-drop Returning t x s = fairness-release t (asked_at x s) s
fairness-drop Nothing t x s = refl

fairness_act : (t : TaskId) (a : Act) (s : State) → Allowed t a s → (effect_of t a s).state.fairness ≡ s.fairness
unfolding make poll drop_request
fairness_act t a s k =
    by_act {X = λ o r. r.state.fairness ≡ s.fairness}
    (record {
      makes = λ b m. refl;
      polls = λ x p. fairness-poll (polling x s) t x s;
      tries = λ p n m c. fairness_try (direct p n s) t n s;
      releases = λ n r. fairness-release t n s;
      drops = λ x u r. fairness-drop (dropping x s) t x s;
      closes = (untouched_closing s).fairness;
      sleeps = refl;
      finishes = refl;
    })
    a k

pub fairness-step : (a : Step) (s : State) → (step a s).state.fairness ≡ s.fairness
fairness-step a s = by_refusal (λ o. o.state.fairness ≡ s.fairness) a s (λ e. fairness_act a.actor a.act s (accepted a s e).allowed) (λ n e. refl)
