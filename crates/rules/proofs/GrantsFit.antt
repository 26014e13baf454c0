-- The numbers in every grant fit: its slot, its count, and the task that joined.
use Prim.Native.Nat.{ℕ, ◌≤◌, ◌<◌}
use native.Mathlib.Omega.{arith}
use mathlib.Core.Path.{◌≡◌, refl, sym, subst}
use mathlib.Core.Bool.{true}
use mathlib.Core.List.{List, [], ◌∷◌}
use Rattle.rules.specs.declared.TaskId.{TaskId}
use Rattle.rules.specs.declared.Slot.{Slot}
use Rattle.rules.specs.declared.Grant.{Grant}
use Rattle.rules.specs.declared.Direct.{Direct}
use Rattle.rules.specs.declared.Direct.TheVariants.{Shut, NoPermits, Take}
use Rattle.rules.specs.declared.Polling.{Polling}
use Rattle.rules.specs.declared.Polling.TheVariants.{Holds, IsClosed, Stays, QueuesBack, QueuesFront, TakesReserved, Takes, Reserves}
use Rattle.rules.specs.declared.Dropping.{Dropping}
use Rattle.rules.specs.declared.Dropping.TheVariants.{Leaving, Unreserving, Returning, Nothing}
use Rattle.rules.specs.declared.Act.{Act}
use Rattle.rules.specs.declared.Step.{Step}
use Rattle.rules.specs.State.{State, stock, in_use, asked_at}
use Rattle.rules.specs.Taking.{direct}
use Rattle.rules.specs.Scan.{leave, queue_grant, scan}
use Rattle.rules.specs.Polling.{polling, poll_grants}
use Rattle.rules.specs.Steps.{make, try_by, poll, add_released, release, dropping, drop_work, drop_request, effect_of}
use Rattle.rules.specs.Refusals.{returned}
use Rattle.rules.specs.Runs.{Said, step, run}
use Rattle.rules.specs.Broken.{member}
use Rattle.rules.specs.Promises.{Each, GrantFits, StepFits}
use Rattle.rules.proofs.Queues.{member_middle}
use Rattle.rules.proofs.Slots.{used-below}
use Rattle.rules.proofs.Eaches.{each_append}
use Rattle.rules.proofs.KeepsQueue.{sound-leave}
use Rattle.rules.proofs.KeepsScan.{Walking, walking, walking_leaves, walking_fits, walking_passed, by_walk}
use Rattle.rules.proofs.Decisions.{by_release, by_drop-queued}
use Rattle.rules.proofs.Accepting.{Releasable, Allowed, accepted}
use Rattle.rules.proofs.Acting.{by_act}
use Rattle.rules.proofs.KeepsSteps.{sound_added, take-fits, by_refusal}
use Rattle.rules.proofs.Counts.{Counted, asked-fits}
use Rattle.rules.proofs.KeepsCounts.{counted-leave, counted-grant, counted_added, Fitting, fitting_step}

module _ (n : ℕ) where
  -- at a turn of a scan
  record Scanning (q : List Slot) (s : State) (gs : List Grant) : Type 0 where
    walk : Walking q s
    counted : Counted n s
    grants : Each (GrantFits n) gs

  queue-grant-fits : (x : Slot) (q : List Slot) (s : State) → Walking (x ∷ q) s → Counted n s → GrantFits n (queue_grant x s)
  queue-grant-fits x q s w h =
      let k = w.sound.queued x (subst (λ (l : List Slot). member x l ≡ true) (sym w.queue) (member_middle x w.passed q)) in
      record { taker = k.below; count = asked-fits n x s h; task = omega (arith, k.task, h.number) }

  scan-grants-fit : (s : State) → Fitting n s → Each (GrantFits n) (scan s).grants
  unfolding scan
  scan-grants-fit s h =
      by_walk {P = Scanning} {R = λ g. Each (GrantFits n) g.grants} (
      record {
        leaves = λ x q b gs k w.
            record { walk = walking_leaves x q b w.walk; counted = counted-leave n x b w.counted; grants = w.grants };
        fits = λ x q b gs k w.
            record {
              walk = walking_fits x q b w.walk k;
              counted = counted-grant n x b w.counted;
              grants = each_append (GrantFits n) gs _ w.grants (queue-grant-fits x q b w.walk w.counted, tt);
            };
        passed = λ x q b gs k w. record { walk = walking_passed x q b w.walk k; counted = w.counted; grants = w.grants };
        ends = λ x q b gs k w. w.grants;
        over = λ b gs w. w.grants;
      }
      )
      s.queue s [] (record { walk = walking s h.sound; counted = h.counted; grants = tt })

  module _ (s : State) (h : Fitting n s) where
    poll-grants-fit : (p : Polling) (t : TaskId) (x : Slot) → t.0 < n → in_use x s ≡ true → Each (GrantFits n) (poll_grants p t x s)
    poll-grants-fit Holds t x l u = tt
    poll-grants-fit IsClosed t x l u = tt
    poll-grants-fit Stays t x l u = tt
    poll-grants-fit QueuesBack t x l u = tt
    poll-grants-fit QueuesFront t x l u = tt
    poll-grants-fit TakesReserved t x l u =
        (record { taker = used-below x s h.sound.slots u; count = asked-fits n x s h.counted; task = l }, tt)
    poll-grants-fit Takes t x l u =
        (record { taker = used-below x s h.sound.slots u; count = asked-fits n x s h.counted; task = l }, tt)
    poll-grants-fit Reserves t x l u = tt

    try_grants-fit : (d : Direct) (t : TaskId) (m : ℕ) → t.0 < n → (d ≡ Take → m ≤ stock s) → Each (GrantFits n) (try_by d t m s).grants
    unfolding try_by
    try_grants-fit Shut t m l k = tt
    try_grants-fit NoPermits t m l k = tt
    try_grants-fit Take t m l k = (record { taker = tt; count = omega (arith, k refl, h.counted.permits.stock); task = l }, tt)

    release-grants-fit : (t : TaskId) (m : ℕ) → Releasable t m s → Each (GrantFits n) (release t m s).grants
    release-grants-fit t m k =
        by_release (λ g. Each (GrantFits n) g.grants) t m s (λ e. tt)
        (λ l f.
        scan-grants-fit (add_released t m s)
        (record { sound = sound_added t m s k l h.sound; counted = counted_added n s h.counted t m k l }))
        (λ l f. tt)

    drop-grants-fit : (d : Dropping) (t : TaskId) (x : Slot) → Releasable t (returned d (asked_at x s)) s
        → Each (GrantFits n) (drop_work d t x s).grants
    unfolding drop_work
    drop-grants-fit Leaving t x k =
        by_drop-queued (λ g. Each (GrantFits n) g.grants) x s
        (scan-grants-fit (leave x s) (record { sound = sound-leave x s h.sound; counted = counted-leave n x s h.counted })) (λ e. tt)
    drop-grants-fit Unreserving t x k = tt
    drop-grants-fit Returning t x k = release-grants-fit t (asked_at x s) k
    drop-grants-fit Nothing t x k = tt

    act_grants-fit : (t : TaskId) (a : Act) → t.0 < n → Allowed t a s → Each (GrantFits n) (effect_of t a s).grants
    unfolding make poll drop_request
    act_grants-fit t a l k =
        by_act {X = λ o r. Each (GrantFits n) r.grants}
        (record {
          makes = λ b m. tt;
          polls = λ x p. poll-grants-fit (polling x s) t x l p.used;
          tries = λ p m o c. try_grants-fit (direct p m s) t m l (take-fits p m s);
          releases = λ m r. release-grants-fit t m r;
          drops = λ x u r. drop-grants-fit (dropping x s) t x r;
          closes = tt;
          sleeps = tt;
          finishes = tt;
        })
        a k

  step-grants-fit : (a : Step) (s : State) → Fitting n s → Each (GrantFits n) (step a s).grants
  step-grants-fit a s h =
      by_refusal (λ o. Each (GrantFits n) o.grants) a s
      (λ e.
      let k = accepted a s e in
      act_grants-fit s h a.actor a.act (omega (arith, k.actor, h.counted.number)) k.allowed)
      (λ r e. tt)

  pub grants-fit : (as' : List Step) (s : State) → Each StepFits as' → Fitting n s
      → Each (λ (o : Said). Each (GrantFits n) o.grants) (run as' s).said
  unfolding run
  grants-fit [] s f h = tt
  grants-fit (a ∷ as') s f h = (step-grants-fit a s h, grants-fit as' (step a s).state f.1 (fitting_step n a s f.0 h))
