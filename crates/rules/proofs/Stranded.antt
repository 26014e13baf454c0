-- Nobody is stranded: on a strictly fair semaphore, after every step, each queued request up to and including the first that is not Bypassable
-- asks for more than the stock.
use Rattle.std.specs.Prelude.{Option, None, Some, unwrap_or, is_some}
use Prim.Native.Nat.{ℕ, ◌≤◌, ◌<◌}
use native.Mathlib.Omega.{arith}
use mathlib.Core.Path.{◌≡◌, refl, sym, ap, subst, ◌∙◌}
use mathlib.Core.Bool.{Bool, true, false, cond, not, ◌&&◌, ◌||◌}
use mathlib.Core.List.{List, [], ◌∷◌, ◌++◌}
use borrow.Author.Tests.{leb-false}
use Rattle.rules.specs.declared.TaskId.{TaskId}
use Rattle.rules.specs.declared.Slot.{Slot}
use Rattle.rules.specs.declared.Ask.{Ask}
use Rattle.rules.specs.declared.Fairness.{Fairness}
use Rattle.rules.specs.declared.Fairness.TheVariants.{StrictlyFair}
use Rattle.rules.specs.declared.Grant.{Grant}
use Rattle.rules.specs.declared.Direct.{Direct}
use Rattle.rules.specs.declared.Direct.TheVariants.{Shut, NoPermits, Take}
use Rattle.rules.specs.declared.Polling.{Polling}
use Rattle.rules.specs.declared.Polling.TheVariants.{Holds, IsClosed, Stays, QueuesBack, QueuesFront, TakesReserved, Takes, Reserves}
use Rattle.rules.specs.declared.Dropping.{Dropping}
use Rattle.rules.specs.declared.Dropping.TheVariants.{Leaving, Unreserving, Returning, Nothing}
use Rattle.rules.specs.declared.Act.{Act}
use Rattle.rules.specs.declared.Step.{Step}
use Rattle.rules.specs.Request.{Request, no_request, queued_as, polled_granted, polled_closed, polled_pending, is_bypassable}
use Rattle.rules.specs.State.{State, is_strict, strict, stock, is_the, same_slot, request_at, asked_at, with_queue, alter_request, close}
use Rattle.rules.specs.Fresh.{Start, fresh, refuses12}
use Rattle.rules.specs.Taking.{take_as, taking, direct, all_bypassable}
use Rattle.rules.specs.Scan.{without, leave, walk, scan}
use Rattle.rules.specs.Waking.{reblock}
use Rattle.rules.specs.Polling.{polling, poll_work, poll_mark, polled}
use Rattle.rules.specs.Steps.{make, try_by, poll, add_released, release, dropping, is_first, front_bypassable, drop_work, drop_request, empty_queue, drop_reservation, closing, effect_of}
use Rattle.rules.specs.Refusals.{returned}
use Rattle.rules.specs.Runs.{step, run}
use Rattle.rules.specs.Broken.{any_of, member}
use Rattle.rules.specs.Sound.{Sound}
use Rattle.rules.specs.Promises.{AskTooMuch}
use Rattle.rules.proofs.Bools.{by_test, clash, and_other, or_left, or_right}
use Rattle.rules.proofs.Queues.{member_apart, same_itself, without_absent}
use Rattle.rules.proofs.Slots.{slot_beside, asks-altered}
use Rattle.rules.proofs.Tasks.{Roused, roused_keeps, reblocks}
use Rattle.rules.proofs.KeepsQueue.{filled, sound-leave}
use Rattle.rules.proofs.Departing.{no_more_take}
use Rattle.rules.proofs.Accepting.{Releasable, Allowed, accepted}
use Rattle.rules.proofs.Acting.{by_act}
use Rattle.rules.proofs.Decisions.{may_pass, DirectSays, Taking, PollSays, poll-says, by_release, by_drop-queued, DropSays, drop-says}
use Rattle.rules.proofs.KeepsSteps.{new_slot, new_unqueued, sound_added, sound-drop_work, empties, empties_reservation, by_closing, by_refusal, by_run, sound-step, sound-fresh}
use Rattle.rules.proofs.Unchanged.{fairness-step}
use Rattle.rules.proofs.KeepsScan.{Walking, walking, walking_leaves, walking_fits, walking_passed, by_walk}

-- Laws of AskTooMuch.

-- the first of a list, and those behind it
first_in : (x : Slot) (q : List Slot) → member x (x ∷ q) ≡ true
unfolding any_of
first_in x q = or_left (same_slot x x) (member x q) (same_itself x)

later_in : (y x : Slot) (q : List Slot) → member y q ≡ true → member y (x ∷ q) ≡ true
unfolding any_of
later_in y x q m = or_right (same_slot y x) (member y q) m

-- where the asks stay, and the stock grows no larger
pub still_too_much : (q : List Slot) (s b : State)
    → ((y : Slot) → member y q ≡ true → (request_at y b).ask ≡ (request_at y s).ask) → stock b ≤ stock s → AskTooMuch q s → AskTooMuch q b
unfolding AskTooMuch
still_too_much [] s b e l h = tt
still_too_much (x ∷ q) s b e l h =
    let a = e x (first_in x q) in (
      omega (arith, h.0, ap (λ (k : Ask). k.asked) a),
      λ p. still_too_much q s b (λ y m. e y (later_in y x q m)) l (h.1 (sym (ap (λ (k : Ask). is_bypassable k.kind) a) ∙ p)),
    )

-- behind requests that are passed
too_much_passed : (p q : List Slot) (s : State) → ((y : Slot) → member y p ≡ true → stock s < asked_at y s) → AskTooMuch q s → AskTooMuch (p ++ q) s
unfolding AskTooMuch
too_much_passed [] q s k h = h
too_much_passed (x ∷ p) q s k h = (k x (first_in x p), λ b. too_much_passed p q s (λ y m. k y (later_in y x p m)) h)

-- one more at the back, too large if all before it are Bypassable
pub too_much_behind : (q : List Slot) (x : Slot) (s : State)
    → (all_bypassable q s ≡ true → stock s < asked_at x s) → AskTooMuch q s → AskTooMuch (q ++ x ∷ []) s
unfolding AskTooMuch all_bypassable
too_much_behind [] x s k h = (k refl, λ b. tt)
too_much_behind (y ∷ q) x s k h =
    (h.0, λ b. too_much_behind q x s (λ a. k (ap (λ (c : Bool). c && all_bypassable q s) b ∙ a)) (h.1 b))

-- nobody is queued; and the first is too large and not Bypassable
pub nobody_queued : (s : State) → AskTooMuch [] s
unfolding AskTooMuch
nobody_queued s = tt

pub first_ends : (x : Slot) (q : List Slot) (s : State)
    → stock s < asked_at x s → is_bypassable (request_at x s).ask.kind ≡ false → AskTooMuch (x ∷ q) s
unfolding AskTooMuch
first_ends x q s l b = (l, λ e. clash e b)

pub first_then : (x : Slot) (q : List Slot) (s : State) → stock s < asked_at x s → AskTooMuch q s → AskTooMuch (x ∷ q) s
unfolding AskTooMuch
first_then x q s l h = (l, λ e. h)

-- one has left that was not first, and the front is not Bypassable
front_left : (x : Slot) (q : List Slot) (s b : State)
    → ((y : Slot) → (request_at y b).ask ≡ (request_at y s).ask) → stock b ≤ stock s
    → is_first x q ≡ false → front_bypassable (without x q) b ≡ false → AskTooMuch q s → AskTooMuch (without x q) b
unfolding without AskTooMuch
front_left x [] s b e l f g h = tt
front_left x (y ∷ q) s b e l f g h =
    let left : without x (y ∷ q) ≡ y ∷ without x q = ap (λ (c : Bool). cond c q (y ∷ without x q)) f in
    subst (λ (k : List Slot). AskTooMuch k b) (sym left)
    (first_ends y (without x q) b (omega (arith, h.0, ap (λ (k : Ask). k.asked) (e y)))
    (subst (λ (k : List Slot). front_bypassable k b ≡ false) left g))

-- A scan strands nobody.

pub walk_strands_nobody : (q : List Slot) (s : State) (gs : List Grant) → Walking q s → AskTooMuch (walk q s gs).state.queue (walk q s gs).state
walk_strands_nobody =
    by_walk {P = λ q s gs. Walking q s} {R = λ g. AskTooMuch g.state.queue g.state} (
    record {
      leaves = λ x q s gs k w. walking_leaves x q s w;
      fits = λ x q s gs k w. walking_fits x q s w k;
      passed = λ x q s gs k w. walking_passed x q s w k;
      ends = λ x q s gs k w. at-end w (first_ends x q s k.1 k.2);
      over = λ s gs w. at-end w (nobody_queued s);
    }
    )
  where
    at-end : {q : List Slot} {s : State} → (w : Walking q s) → AskTooMuch q s → AskTooMuch s.queue s
    at-end {q} {s} w h = subst (λ (l : List Slot). AskTooMuch l s) (sym w.queue) (too_much_passed w.passed q s (λ y m. (w.skipped y m).1) h)

pub scan_strands_nobody : (s : State) → Sound s → AskTooMuch (scan s).state.queue (scan s).state
unfolding scan
scan_strands_nobody s h = walk_strands_nobody s.queue s [] (walking s h)

-- Each step.

-- a strictly fair semaphore that is sound and strands nobody
pub record Served (s : State) : Type 0 where
  pub sound : Sound s
  pub strictly : strict s ≡ true
  pub nobody : AskTooMuch s.queue s

-- on a strictly fair semaphore nobody reserves, and there is no reservation
pub plain : {s : State} → Served s → (x : Slot) → (request_at x s).ask.reserving ≡ false
plain {s} v x = by_test (request_at x s).ask.reserving (λ r. clash v.strictly (v.sound.made x r).unfair) (λ r. r)

-- and who takes by a poll is not queued
pub taker-unqueued : {s : State} (v : Served s) (x : Slot) → Taking false x s → (request_at x s).queued ≡ false
taker-unqueued {s} v x k =
    by_test (request_at x s).queued (λ q. clash (ap (λ (b : Bool). b && strict s) q ∙ v.strictly) (k.plain (plain v x))) (λ q. q)

no_reservation : {s : State} → Served s → s.reservation ≡ None
no_reservation {s} v = go s.reservation refl
  where
    go : (o : Option Slot) → s.reservation ≡ o → o ≡ None
    go None e = refl
    go (Some x) e = clash (v.sound.reserves x e).reserving (plain v x)

-- the queue and the asks in it as they were, and the stock no larger
record Quieter (s b : State) : Type 0 where
  queue : b.queue ≡ s.queue
  asks : (y : Slot) → member y s.queue ≡ true → (request_at y b).ask ≡ (request_at y s).ask
  stock : stock b ≤ stock s

quieter_serves : {s b : State} → Quieter s b → AskTooMuch s.queue s → AskTooMuch b.queue b
quieter_serves {s} {b} k h = subst (λ (q : List Slot). AskTooMuch q b) (sym k.queue) (still_too_much s.queue s b k.asks k.stock h)

quieter_then : {a b c : State} → Quieter a b → Quieter b c → Quieter a c
quieter_then {a} {b} {c} p q =
    record {
      queue = q.queue ∙ p.queue;
      asks = λ y m. q.asks y (subst (λ (l : List Slot). member y l ≡ true) (sym p.queue) m) ∙ p.asks y m;
      stock = omega (arith, p.stock, q.stock);
    }

quieter_altered : (x : Slot) (f : Request → Request) (s : State) → ((r : Request) → (f r).ask ≡ r.ask) → Quieter s (alter_request x f s)
quieter_altered x f s h = record { queue = refl; asks = λ y m. asks-altered x f s h y; stock = omega arith }

quieter_roused : {s b : State} → Roused s b → Quieter s b
quieter_roused {s} r = roused_keeps (Quieter s) r (record { queue = refl; asks = λ y m. refl; stock = omega arith })

quieter_taken : (t : TaskId) (n : ℕ) (s : State) → Quieter s (take_as t n s)
unfolding take_as taking
quieter_taken t n s = record { queue = refl; asks = λ y m. refl; stock = omega arith }

-- leaving a queue that it is not in
quieter_left : (x : Slot) (s : State) → member x s.queue ≡ false → Quieter s (leave x s)
quieter_left x s m =
    record { queue = without_absent x s.queue m; asks = λ y e. asks-altered x (queued_as false) s (λ r. refl) y; stock = omega arith }

-- a slot that is not in the queue, freed or filled
quieter_filled : (x : Slot) (o : Option Request) (s : State) → member x s.queue ≡ false → Quieter s (filled x o s)
quieter_filled x o s m =
    record {
      queue = refl;
      asks = λ y e.
          ap (λ (p : Option Request). (unwrap_or p no_request).ask)
          (slot_beside x y o s (member_apart x y s.queue m e));
      stock = omega arith;
    }

module _ (s : State) (v : Served s) where
  -- a request that the direct rule denied asks too much, behind a queue of Bypassable ones or in front of any
  denied : (x : Slot) → DirectSays NoPermits (request_at x s).ask.kind (asked_at x s) s
      → may_pass (request_at x s).ask.kind s ≡ true → stock s < asked_at x s
  denied x d p = leb-false (asked_at x s) (stock s) (and_other _ _ (d.1 (ap (λ (o : Option Slot). is_some o) (no_reservation v))) p)

  poll_serves : (p : Polling) (t : TaskId) (x : Slot) → PollSays p x s
      → AskTooMuch (poll_work p t x s).queue (alter_request x (poll_mark (polled p) t) (poll_work p t x s))
  unfolding poll_work
  poll_serves Holds t x k = quieter_serves (quieter_altered x polled_granted s (λ r. refl)) v.nobody
  poll_serves IsClosed t x k = quieter_serves (quieter_altered x polled_closed s (λ r. refl)) v.nobody
  poll_serves Stays t x k = quieter_serves (quieter_altered x (polled_pending t) s (λ r. refl)) v.nobody
  poll_serves QueuesBack t x k =
      let a = with_queue (s.queue ++ x ∷ []) s in
      let b = alter_request x (queued_as true) a in
      still_too_much (s.queue ++ x ∷ []) s (alter_request x (polled_pending t) b)
      (λ y m. asks-altered x (polled_pending t) b (λ r. refl) y ∙ asks-altered x (queued_as true) a (λ r. refl) y) (omega arith)
      (too_much_behind s.queue x s
      (λ e. denied x (k.denied (plain v x)) (or_left (all_bypassable s.queue s || not (strict s)) _ (or_left (all_bypassable s.queue s) _ e)))
      v.nobody)
  poll_serves QueuesFront t x k =
      let a = with_queue (x ∷ s.queue) s in
      let b = alter_request x (queued_as true) a in
      still_too_much (x ∷ s.queue) s (alter_request x (polled_pending t) b)
      (λ y m. asks-altered x (polled_pending t) b (λ r. refl) y ∙ asks-altered x (queued_as true) a (λ r. refl) y) (omega arith)
      (first_then x s.queue s
      (denied x (k.0.denied (plain v x)) (or_right (all_bypassable s.queue s || not (strict s)) _ (k.0.kind (plain v x))))
      v.nobody)
  poll_serves TakesReserved t x k = clash k.1 (plain v x)
  poll_serves Takes t x k =
      let a = take_as t (asked_at x s) s in
      let r = reblocks t (leave x a) in
      let out = (no_more_take t (asked_at x s) s).queue x (sym (v.sound.marked x) ∙ taker-unqueued v x k) in
      quieter_serves
      (quieter_then (quieter_taken t (asked_at x s) s)
      (quieter_then (quieter_left x a out)
      (quieter_then (quieter_roused r) (quieter_altered x polled_granted (reblock t (leave x a)) (λ q. refl)))))
      v.nobody
  poll_serves Reserves t x k = clash k.reserving (plain v x)

  try_serves : (d : Direct) (t : TaskId) (n : ℕ) → AskTooMuch (try_by d t n s).state.queue (try_by d t n s).state
  unfolding try_by
  try_serves Shut t n = quieter_serves (record { queue = refl; asks = λ y m. refl; stock = omega arith }) v.nobody
  try_serves NoPermits t n = quieter_serves (record { queue = refl; asks = λ y m. refl; stock = omega arith }) v.nobody
  try_serves Take t n = quieter_serves (quieter_then (quieter_taken t n s) (quieter_roused (reblocks t (take_as t n s)))) v.nobody

  release_serves : (t : TaskId) (n : ℕ) → Releasable t n s → AskTooMuch (release t n s).state.queue (release t n s).state
  release_serves t n k =
      by_release (λ g. AskTooMuch g.state.queue g.state) t n s (λ e. v.nobody)
      (λ l f. scan_strands_nobody (add_released t n s) (sound_added t n s k l v.sound))
      (λ l f. clash v.strictly f)

  drop_serves : (d : Dropping) (t : TaskId) (x : Slot) → DropSays d x s → Releasable t (returned d (asked_at x s)) s
      → AskTooMuch (drop_work d t x s).state.queue (drop_work d t x s).state
  unfolding drop_work
  drop_serves Leaving t x q k =
      by_drop-queued (λ g. AskTooMuch g.state.queue g.state) x s (scan_strands_nobody (leave x s) (sound-leave x s v.sound))
      (λ e.
      let f = e v.strictly in
      front_left x s.queue s (leave x s) (asks-altered x (queued_as false) s (λ r. refl)) (omega arith) f.0 f.1 v.nobody)
  drop_serves Unreserving t x q k = clash q.1 (ap (λ (o : Option Slot). is_the x o) (no_reservation v))
  drop_serves Returning t x q k = release_serves t (asked_at x s) k
  drop_serves Nothing t x q k = v.nobody

  make_serves : (t : TaskId) (a : Ask) → AskTooMuch (make t a s).state.queue (make t a s).state
  unfolding make
  make_serves t a = quieter_serves (quieter_filled (new_slot s) _ s (new_unqueued s v.sound)) v.nobody

  closing_serves : AskTooMuch (closing s).queue (closing s)
  closing_serves =
      by_closing (λ b. AskTooMuch b.queue b) s v.nobody (λ o.
      let k = empties s.queue s refl v.sound in
      let d = empties_reservation s.reservation (empty_queue s.queue s) k.reservation k.queue k.sound in
      subst (λ (q : List Slot). AskTooMuch q (close (drop_reservation s.reservation (empty_queue s.queue s)))) (sym d.1) (nobody_queued _))

  act_serves : (t : TaskId) (a : Act) → Allowed t a s → AskTooMuch (effect_of t a s).state.queue (effect_of t a s).state
  unfolding poll drop_request
  act_serves t a k =
      by_act {X = λ o r. AskTooMuch r.state.queue r.state}
      (record {
        makes = λ b m. make_serves t b;
        polls = λ x p. poll_serves (polling x s) t x (poll-says x s);
        tries = λ p n m c. try_serves (direct p n s) t n;
        releases = λ n r. release_serves t n r;
        drops =
            λ x u r.
            let d = sound-drop_work (dropping x s) t x s (drop-says x s) r v.sound in
            quieter_serves (quieter_filled x None (drop_work (dropping x s) t x s).state d.unqueued) (drop_serves (dropping x s) t x (drop-says x s) r);
        closes = closing_serves;
        sleeps = quieter_serves (record { queue = refl; asks = λ y m. refl; stock = omega arith }) v.nobody;
        finishes = quieter_serves (record { queue = refl; asks = λ y m. refl; stock = omega arith }) v.nobody;
      })
      a k

pub served_step : (a : Step) (s : State) → Served s → Served (step a s).state
served_step a s v =
    record {
      sound = sound-step a s v.sound;
      strictly = ap (λ (f : Fairness). is_strict f) (fairness-step a s) ∙ v.strictly;
      nobody =
          by_refusal (λ o. AskTooMuch o.state.queue o.state) a s
          (λ e. act_serves s v a.actor a.act (accepted a s e).allowed) (λ n e. v.nobody);
    }

pub served_run : (as' : List Step) (s : State) → Served s → Served (run as' s).state
served_run = by_run Served served_step

pub served_fresh : (a : Start) → refuses12 a ≡ false → a.fairness ≡ StrictlyFair → Served (fresh a)
unfolding fresh AskTooMuch
served_fresh a e f = record { sound = sound-fresh a e; strictly = ap (λ (k : Fairness). is_strict k) f; nobody = tt }
