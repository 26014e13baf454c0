-- Who is passed over: watching a step's grants changes none of them, and at each of them only Bypassable requests of unfinished tasks that ask for
-- more than the stock stand ahead in the queue.
use Rattle.std.specs.Prelude.{Option, None, Some}
use Prim.Native.Nat.{ℕ}
use native.Mathlib.Omega.{arith}
use mathlib.Core.Path.{◌≡◌, refl, sym, ap, subst, ◌∙◌}
use mathlib.Core.Bool.{Bool, true, false, cond, ◌&&◌, ◌||◌}
use mathlib.Core.List.{List, [], ◌∷◌, ◌++◌, map}
use lib.Dec.{eqb}
use Rattle.rules.specs.declared.TaskId.{TaskId}
use Rattle.rules.specs.declared.Slot.{Slot}
use Rattle.rules.specs.declared.Grant.{Grant}
use Rattle.rules.specs.declared.Verdict.{Verdict}
use Rattle.rules.specs.declared.Verdict.TheVariants.{Leaves, Fits, Passed, Ends}
use Rattle.rules.specs.declared.Direct.{Direct}
use Rattle.rules.specs.declared.Direct.TheVariants.{Shut, NoPermits, Take}
use Rattle.rules.specs.declared.Polling.{Polling}
use Rattle.rules.specs.declared.Polling.TheVariants.{Holds, IsClosed, Stays, QueuesBack, QueuesFront, TakesReserved, Takes, Reserves}
use Rattle.rules.specs.declared.Dropping.{Dropping}
use Rattle.rules.specs.declared.Dropping.TheVariants.{Leaving, Unreserving, Returning, Nothing}
use Rattle.rules.specs.declared.Act.{Act}
use Rattle.rules.specs.declared.Step.{Step}
use Rattle.rules.specs.State.{State, strict, asked_at}
use Rattle.rules.specs.Taking.{direct}
use Rattle.rules.specs.Scan.{Granting, leave, verdict, grant_queued, turn, walk, scan}
use Rattle.rules.specs.Polling.{polling, poll_grants}
use Rattle.rules.specs.Steps.{Sort, by_sort, ◌does◌, make, try_by, poll, add_released, release, dropping, is_first, front_bypassable, drop_queued, drop_work, drop_request, effect_of}
use Rattle.rules.specs.Refusals.{returned, refusal}
use Rattle.rules.specs.Runs.{Said, unless, step, run}
use Rattle.rules.specs.Broken.{member}
use Rattle.rules.specs.Sound.{Sound}
use Rattle.rules.specs.Promises.{Each, Moment, grants_of, Watched, queue_moment, watch_turn, watch_walk, watch_scan, watch_release, watch_drop, watch_act, if_accepted, watch_run, EachPair, FromQueue, TakenAtOnce, PassesOnlySuch}
use Rattle.rules.proofs.Bools.{positive, by_cond, clash}
use Rattle.rules.proofs.Eaches.{each_append}
use Rattle.rules.proofs.KeepsQueue.{sound-leave}
use Rattle.rules.proofs.KeepsScan.{Says, verdict-says, Walking, walking, walking_leaves, walking_fits, walking_passed}
use Rattle.rules.proofs.Accepting.{Releasable, Allowed, accepted}
use Rattle.rules.proofs.Acting.{by_act}
use Rattle.rules.proofs.Decisions.{PollSays, poll-says}
use Rattle.rules.proofs.KeepsSteps.{sound_added}
use Rattle.rules.proofs.Stranded.{Served, served_step, plain, taker-unqueued}

-- Watching changes nothing.

grants_append : (ms ns : List Moment) → grants_of (ms ++ ns) ≡ grants_of ms ++ grants_of ns
grants_append [] ns = refl
grants_append (m ∷ ms) ns = ap (λ (gs : List Grant). m.grant ∷ gs) (grants_append ms ns)

-- the same grants, and the same state at the end
pub record Watches (w : Watched) (g : Granting) : Type 0 where
  pub grants : grants_of w.moments ≡ g.grants
  pub state : w.state ≡ g.state

watches_turn : (v : Verdict) (x : Slot) (on : State → List Moment → Watched) (go : State → List Grant → Granting) (s : State) (ms : List Moment)
    → ((b : State) (ns : List Moment) → Watches (on b ns) (go b (grants_of ns)))
    → Watches (watch_turn v x on s ms) (turn v x go s (grants_of ms))
watches_turn Leaves x on go s ms k = k (leave x s) ms
watches_turn Fits x on go s ms k =
    let m : List Moment = queue_moment x s ∷ [] in
    let b = grant_queued x s in
    subst (λ (gs : List Grant). Watches (on b (ms ++ m)) (go b gs)) (grants_append ms m) (k b (ms ++ m))
watches_turn Passed x on go s ms k = k s ms
watches_turn Ends x on go s ms k = record { grants = refl; state = refl }

pub watches_walk : (q : List Slot) (s : State) (ms : List Moment) → Watches (watch_walk q s ms) (walk q s (grants_of ms))
unfolding watch_walk walk
watches_walk [] s ms = record { grants = refl; state = refl }
watches_walk (x ∷ q) s ms =
    watches_turn (verdict x s) x (λ b ns. watch_walk q b ns) (λ b gs. walk q b gs) s ms (λ b ns. watches_walk q b ns)

watches_scan : (s : State) → grants_of (watch_scan s) ≡ (scan s).grants
unfolding watch_scan scan
watches_scan s = (watches_walk s.queue s []).grants

-- both ways of a test alike
both_ways : (b : Bool) (ms ns : List Moment) (g h : Granting)
    → grants_of ms ≡ g.grants → grants_of ns ≡ h.grants → grants_of (cond b ms ns) ≡ (cond b g h).grants
both_ways true ms ns g h e f = e
both_ways false ms ns g h e f = f

watches_release : (t : TaskId) (n : ℕ) (s : State) → grants_of (watch_release t n s) ≡ (release t n s).grants
unfolding watch_release release
watches_release t n s =
    both_ways (eqb n 0) _ _ _ _ refl (both_ways (strict (add_released t n s)) _ _ _ _ (watches_scan (add_released t n s)) refl)

watches_drop : (d : Dropping) (t : TaskId) (x : Slot) (s : State) → grants_of (watch_drop d t x s) ≡ (drop_work d t x s).grants
unfolding watch_drop drop_work drop_queued
watches_drop Leaving t x s =
    both_ways (strict s && (is_first x s.queue || front_bypassable (leave x s).queue (leave x s))) _ _ _ _ (watches_scan (leave x s)) refl
watches_drop Unreserving t x s = refl
watches_drop Returning t x s = watches_release t (asked_at x s) s
watches_drop Nothing t x s = refl

-- the moments of a step's grants, by its sort
abbrev watched_by : Sort → TaskId → State → List Grant → List Moment
watched_by o t s gs =
    by_sort o (λ n. watch_release t n s) (λ x. watch_drop (dropping x s) t x s) (map (λ (g : Grant). record { grant = g; state = s }) gs)

at_once-grants : (s : State) (gs : List Grant) → grants_of (map (λ (g : Grant). record { grant = g; state = s }) gs) ≡ gs
at_once-grants s [] = refl
at_once-grants s (g ∷ gs) = ap (λ (hs : List Grant). g ∷ hs) (at_once-grants s gs)

watches_act : (t : TaskId) (a : Act) (s : State) → Allowed t a s → grants_of (watch_act t a s) ≡ (effect_of t a s).grants
unfolding watch_act drop_request
watches_act t a s k =
    by_act {X = λ o r. grants_of (watched_by o t s r.grants) ≡ r.grants}
    (record {
      makes = λ b m. at_once-grants s _;
      polls = λ x p. at_once-grants s _;
      tries = λ p n m c. at_once-grants s _;
      releases = λ n r. watches_release t n s;
      drops = λ x u r. watches_drop (dropping x s) t x s;
      closes = at_once-grants s _;
      sleeps = at_once-grants s _;
      finishes = at_once-grants s _;
    })
    a k

watches_step : (a : Step) (s : State) → grants_of (if_accepted (refusal a s) (watch_act a.actor a.act s) []) ≡ (step a s).grants
unfolding step
watches_step a s = go (refusal a s) refl
  where
    go : (o : Option ℕ) → refusal a s ≡ o → grants_of (if_accepted o (watch_act a.actor a.act s) []) ≡ (unless o a s).grants
    go None e = watches_act a.actor a.act s (accepted a s e).allowed
    go (Some n) e = refl

-- for each step of a run, the grants that it returned
pub watches_run : (as' : List Step) (s : State) → map grants_of (watch_run as' s) ≡ map (λ (o : Said). o.grants) (run as' s).said
unfolding watch_run run
watches_run [] s = refl
watches_run (a ∷ as') s = λ i. watches_step a s i ∷ watches_run as' (step a s).state i

-- Who stands ahead.

-- at a turn of a scan: those ahead are those that have been passed
turn-passes : (x : Slot) (q : List Slot) (s : State) → Walking (x ∷ q) s → FromQueue (queue_moment x s)
turn-passes x q s w =
    record {
      slot = x;
      ahead = w.passed;
      behind = q;
      queue = w.queue;
      once = w.sound.once;
      grant = refl;
      passed = λ y m. let k = w.skipped y m in record { bypassable = k.2; unfinished = k.0; large = k.1 };
    }

turn-watched : (v : Verdict) (x : Slot) (q : List Slot) (on : State → List Moment → Watched) (s : State) (ms : List Moment)
    → Says v x s → Walking (x ∷ q) s → Each FromQueue ms
    → ((b : State) (ns : List Moment) → Walking q b → Each FromQueue ns → Each FromQueue (on b ns).moments)
    → Each FromQueue (watch_turn v x on s ms).moments
turn-watched Leaves x q on s ms k w h r = r (leave x s) ms (walking_leaves x q s w) h
turn-watched Fits x q on s ms k w h r =
    r (grant_queued x s) _ (walking_fits x q s w k) (each_append FromQueue ms _ h (turn-passes x q s w, tt))
turn-watched Passed x q on s ms k w h r = r s ms (walking_passed x q s w k) h
turn-watched Ends x q on s ms k w h r = h

walk-watched : (q : List Slot) (s : State) (ms : List Moment) → Walking q s → Each FromQueue ms → Each FromQueue (watch_walk q s ms).moments
unfolding watch_walk
walk-watched [] s ms w h = h
walk-watched (x ∷ q) s ms w h =
    turn-watched (verdict x s) x q (λ b ns. watch_walk q b ns) s ms (verdict-says x s) w h (λ b ns. walk-watched q b ns)

scan-watched : (s : State) → Sound s → Each FromQueue (watch_scan s)
unfolding watch_scan
scan-watched s h = walk-watched s.queue s [] (walking s h) tt

module _ (s : State) (v : Served s) where
  -- on a strictly fair semaphore a poll takes for a request that is not queued
  poll-watched : (p : Polling) (t : TaskId) (x : Slot) → PollSays p x s
      → Each TakenAtOnce (map (λ (g : Grant). record { grant = g; state = s }) (poll_grants p t x s))
  poll-watched Holds t x k = tt
  poll-watched IsClosed t x k = tt
  poll-watched Stays t x k = tt
  poll-watched QueuesBack t x k = tt
  poll-watched QueuesFront t x k = tt
  poll-watched TakesReserved t x k = clash k.1 (plain v x)
  poll-watched Takes t x k = (
    λ y e. let same : x ≡ y = cc in subst (λ (z : Slot). member z s.queue ≡ false) same (sym (v.sound.marked x) ∙ taker-unqueued v x k),
    tt,
  )
  poll-watched Reserves t x k = tt

  try_watched : (d : Direct) (t : TaskId) (n : ℕ) → Each TakenAtOnce (map (λ (g : Grant). record { grant = g; state = s }) (try_by d t n s).grants)
  unfolding try_by
  try_watched Shut t n = tt
  try_watched NoPermits t n = tt
  try_watched Take t n = (λ y e. let z : ◌≡◌ {A = ℕ} 0 1 = cc in absurd (omega arith), tt)

  release-watched : (t : TaskId) (n : ℕ) → Releasable t n s → Each FromQueue (watch_release t n s)
  unfolding watch_release
  release-watched t n k =
      by_cond (Each FromQueue) (eqb n 0) (λ e. tt) (λ e.
      by_cond (Each FromQueue) (strict (add_released t n s))
      (λ f. scan-watched (add_released t n s) (sound_added t n s k (positive n e) v.sound)) (λ f. tt))

  drop-watched : (d : Dropping) (t : TaskId) (x : Slot) → Releasable t (returned d (asked_at x s)) s → Each FromQueue (watch_drop d t x s)
  unfolding watch_drop
  drop-watched Leaving t x k =
      by_cond (Each FromQueue) (strict s && (is_first x s.queue || front_bypassable (leave x s).queue (leave x s)))
      (λ e. scan-watched (leave x s) (sound-leave x s v.sound)) (λ e. tt)
  drop-watched Unreserving t x k = tt
  drop-watched Returning t x k = release-watched t (asked_at x s) k
  drop-watched Nothing t x k = tt

  act_watched : (t : TaskId) (a : Act) → Allowed t a s → PassesOnlySuch (t does a) (watch_act t a s)
  unfolding watch_act make poll
  act_watched t a k =
      by_act {X = λ o r. Each (by_sort o (λ n. FromQueue) (λ x. FromQueue) TakenAtOnce) (watched_by o t s r.grants)}
      (record {
        makes = λ b m. tt;
        polls = λ x p. poll-watched (polling x s) t x (poll-says x s);
        tries = λ p n m c. try_watched (direct p n s) t n;
        releases = λ n r. release-watched t n r;
        drops = λ x u r. drop-watched (dropping x s) t x r;
        closes = tt;
        sleeps = tt;
        finishes = tt;
      })
      a k

  step-watched : (a : Step) (o : Option ℕ) → refusal a s ≡ o → PassesOnlySuch a (if_accepted o (watch_act a.actor a.act s) [])
  step-watched a None e = act_watched a.actor a.act (accepted a s e).allowed
  step-watched a (Some n) e = tt

pub run-watched : (as' : List Step) (s : State) → Served s → EachPair PassesOnlySuch as' (watch_run as' s)
unfolding watch_run
run-watched [] s v = tt
run-watched (a ∷ as') s v = (step-watched s v a (refusal a s) refl, run-watched as' (step a s).state (served_step a s v))
