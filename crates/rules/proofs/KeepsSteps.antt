-- Every accepted step keeps a state sound; so does every step and every run; and every fresh state is sound.
use Rattle.std.specs.Prelude.{Option, None, Some, is_some}
use Prim.Native.Nat.{ℕ, zero, suc, ◌≤◌, ◌<◌}
use native.Mathlib.Omega.{arith}
use mathlib.Core.Path.{◌≡◌, refl, sym, ap, subst, ◌∙◌}
use mathlib.Core.Bool.{Bool, true, false, cond, not, ◌&&◌, ◌||◌}
use mathlib.Core.List.{List, [], ◌∷◌}
use lib.Dec.{eqb}
use lib.ListN.{length, get_or, drop, replicate, length-set}
use Rattle.rules.specs.declared.TaskId.{TaskId}
use Rattle.rules.specs.declared.Slot.{Slot}
use Rattle.rules.specs.declared.Ask.{Ask}
use Rattle.rules.specs.declared.Priority.{Priority}
use Rattle.rules.specs.declared.Direct.{Direct}
use Rattle.rules.specs.declared.Direct.TheVariants.{Shut, NoPermits, Take}
use Rattle.rules.specs.declared.Polling.{Polling}
use Rattle.rules.specs.declared.Polling.TheVariants.{Holds, IsClosed, Stays, QueuesBack, QueuesFront, TakesReserved, Takes, Reserves}
use Rattle.rules.specs.declared.Dropping.{Dropping}
use Rattle.rules.specs.declared.Dropping.TheVariants.{Leaving, Unreserving, Returning, Nothing}
use Rattle.rules.specs.declared.Act.{Act}
use Rattle.rules.specs.declared.Step.{Step}
use Rattle.rules.specs.Sizes.{max_tasks, slot_count}
use Rattle.rules.specs.Task.{Task, no_task, ticked, slept, finished}
use Rattle.rules.specs.Request.{Request, queued_as, polled_pending, polled_granted, polled_closed}
use Rattle.rules.specs.State.{Batch, State, stock, is_the, has_reservation, in_use, request_at, asked_at, task_of, owner_finished, unblock_and_wake, with_queue, with_reservation, alter_request, close}
use Rattle.rules.specs.Taking.{take_as, direct}
use Rattle.rules.specs.Scan.{without, leave}
use Rattle.rules.specs.Waking.{wake_unfair, reblock}
use Rattle.rules.specs.Polling.{polling, poll_work, poll_mark, polled}
use Rattle.rules.specs.Steps.{Outcome, lowest_free, make, try_by, poll, add_released, release, dropping, drop_work, drop_request, empty_queue, drop_reservation, closing, wake_unfinished, quiet, effect_of, effect}
use Rattle.rules.specs.Steps.Answer.{refused}
use Rattle.rules.specs.Refusals.{returned, gives_back, refusal}
use Rattle.rules.specs.Fresh.{Start, first_batch, fresh_tasks, fresh_batches, fresh, refused_fresh, refuses12}
use Rattle.rules.specs.Runs.{unless, step, run}
use Rattle.rules.specs.Broken.{member}
use Rattle.rules.specs.Sound.{AddUp, SoundPermits, Sound}
use Rattle.rules.proofs.Bools.{positive, by_cond, by_test, clash, and_other}
use Rattle.rules.proofs.Queues.{same_itself, absent_empty, once-empty, gone_without}
use Rattle.rules.proofs.Slots.{free-request, used-below, alter_twice}
use Rattle.rules.proofs.Batches.{first_adds_up, sound-adding}
use Rattle.rules.proofs.Tasks.{roused-number, roused_keeps, rouse_unfinished, reblocks}
use Rattle.rules.proofs.Keeping.{sound_of, sound-permits, sound-tasks, sound_alter_task, sound-roused, sound_unreserved, sound_wake}
use Rattle.rules.proofs.KeepsQueue.{Joins, joins_back, joins_front, sound-joined, sound_aside, sound_pending, sound-leave, sound-reserved, sound_filled, sound-free, sound-close, not-reserved, not-queued, queued_unreserved, has_reservation_lem}
use Rattle.rules.proofs.KeepsTaking.{sound-take}
use Rattle.rules.proofs.KeepsScan.{sound-scan}
use Rattle.rules.proofs.Departing.{NoMore, no_more_then, no_more_take, no_more_scan, no_more_wake, no_more_roused, no_more_release}
use Rattle.rules.proofs.Accepting.{Releasable, Pollable, HasSlot, Allowed, accepted, startable}
use Rattle.rules.proofs.Acting.{MayMake, by_act}
use Rattle.rules.proofs.Decisions.{DirectSays, direct-says, Queueing, PollSays, poll-says, by_release, by_drop-queued, DropSays, drop-says}

-- Make.

-- the lowest free slot is free
pub lowest_free_lem : (rs : List (Option Request)) → get_or rs (lowest_free rs) None ≡ None
unfolding lowest_free
lowest_free_lem [] = refl
lowest_free_lem (None ∷ rs) = refl
lowest_free_lem (Some r ∷ rs) = lowest_free_lem rs

-- the slot that a new request takes
abbrev pub new_slot : State → Slot
new_slot s = record { 0 = lowest_free s.slots }

pub new_unused : (s : State) → in_use (new_slot s) s ≡ false
new_unused s = ap (λ (o : Option Request). is_some o) (lowest_free_lem s.slots)

pub new_unqueued : (s : State) → Sound s → member (new_slot s) s.queue ≡ false
new_unqueued s h = not-queued (new_slot s) s h (λ w. clash w.used (new_unused s))

pub sound-make : (t : TaskId) (a : Ask) (s : State) → HasSlot s → (a.reserving ≡ true → MayMake a s) → Sound s → Sound (make t a s).state
unfolding make
sound-make t a s l m h =
    sound_filled (new_slot s) _ s l (new_unqueued s h) (not-reserved (new_slot s) s h (λ r. clash r.waits.used (new_unused s))) refl m h

-- Poll.

module _ (t : TaskId) (x : Slot) (s : State) (l : t.0 < length s.tasks) (k : Pollable t x s) (h : Sound s) where
  -- a request that is polled and may wait asks for something
  asks_something : (request_at x s).holding ≡ false → s.closed ≡ false → 0 < asked_at x s
  asks_something g o =
      by_test (request_at x s).ask.reserving (λ r. (h.made x r).asks) (λ r.
      let p = and_other (not (request_at x s).ask.reserving && eqb (asked_at x s) 0) _ k.asks in
      by_test (eqb (asked_at x s) 0)
      (λ z.
      clash (ap (λ (b : Bool). not (b || s.closed)) g ∙ ap (λ (b : Bool). not b) o)
      (p (ap (λ (b : Bool). not b && eqb (asked_at x s) 0) r ∙ z)))
      (λ z. positive (asked_at x s) z))

  -- a plain request has no reservation
  unreserved : ((request_at x s).ask.reserving ≡ true → has_reservation x s ≡ false) → has_reservation x s ≡ false
  unreserved f = by_test (request_at x s).ask.reserving f (λ r. not-reserved x s h (λ v. clash v.reserving r))

  -- it joins the queue, and the actor is its task
  joining : (front : Bool) (q : List Slot) → Queueing front x s → Joins x s q
      → Sound (alter_request x (polled_pending t) (alter_request x (queued_as true) (with_queue q s)))
  joining front q u j =
      subst Sound (sym (alter_twice x (queued_as true) (polled_pending t) (with_queue q s)))
      (sound-joined x (λ r. polled_pending t (queued_as true r)) s q (
      record {
        used = k.used;
        unreserved = unreserved u.unreserved;
        «open» = u.«open»;
        ask = λ r. refl;
        queued = λ r. refl;
        waits = record { asks = asks_something u.holding u.«open»; holding = u.holding; completed = k.completed; task = l };
      }
      )
      j h)

  -- a request that does not wait, after its queue and reservation are gone
  granting : (b : State) → Sound b → member x b.queue ≡ false → has_reservation x b ≡ false → Sound (alter_request x polled_granted b)
  granting b g m v = sound_aside x polled_granted b (λ r. refl) (λ r. refl) m v g

  sound-poll_by : (p : Polling) → PollSays p x s → Sound (alter_request x (poll_mark (polled p) t) (poll_work p t x s))
  unfolding poll_work
  sound-poll_by Holds g =
      granting s h (not-queued x s h (λ w. clash g w.holding)) (not-reserved x s h (λ r. clash g r.waits.holding))
  sound-poll_by IsClosed c =
      let e = h.closed c.1 in
      sound_aside x polled_closed s (λ r. refl) (λ r. refl) (absent_empty x s.queue e.0) (ap (λ (o : Option Slot). is_the x o) e.1) h
  sound-poll_by Stays o = sound_pending x t s l h
  sound-poll_by QueuesBack u = joining false _ u (joins_back x s h (sym (h.marked x) ∙ u.unqueued))
  sound-poll_by QueuesFront u = joining true _ u.0 (joins_front x s h (sym (h.marked x) ∙ u.0.unqueued))
  sound-poll_by TakesReserved u =
      let r = h.reserves x (has_reservation_lem x s (u.0.reservation u.1)) in
      let a = with_reservation None s in
      let b = take_as t (asked_at x s) a in
      let n = no_more_then (no_more_take t (asked_at x s) a) (no_more_wake b) in
      granting (wake_unfair b) (sound_wake b (sound-take t (asked_at x s) a u.0.fits (sound_unreserved s h)))
      (n.queue x (sym (h.marked x) ∙ r.unqueued)) (n.reservation x refl)
  sound-poll_by Takes u =
      let a = take_as t (asked_at x s) s in
      let g = sound-take t (asked_at x s) s u.fits h in
      let r = reblocks t (leave x a) in
      granting (reblock t (leave x a)) (sound-roused r (sound-leave x a g))
      ((no_more_roused r).queue x (gone_without x a.queue g.once))
      ((no_more_roused r).reservation x ((no_more_take t (asked_at x s) s).reservation x (unreserved u.reservation)))
  sound-poll_by Reserves u =
      let r = reblocks t (with_reservation (Some x) (leave x s)) in
      roused_keeps (λ b. Sound (alter_request x (polled_pending t) b)) r
      (sound-tasks r.tasks _ (roused-number r)
      (sound-reserved x t s k.used u.reserving u.holding k.completed u.«open» l h))

  pub sound-poll : Sound (poll t x s).state
  unfolding poll
  sound-poll = sound-poll_by (polling x s) (poll-says x s)

-- Try.

pub sound_try : (d : Direct) (t : TaskId) (n : ℕ) (s : State) → (d ≡ Take → n ≤ stock s) → Sound s → Sound (try_by d t n s).state
unfolding try_by
sound_try Shut t n s f h = sound-tasks _ s (length-set s.tasks t.0 _) h
sound_try NoPermits t n s f h = sound-tasks _ s (length-set s.tasks t.0 _) h
sound_try Take t n s f h = sound-roused (reblocks t (take_as t n s)) (sound-take t n s (f refl) h)

-- Release.

pub sound_added : (t : TaskId) (n : ℕ) (s : State) → Releasable t n s → 0 < n → Sound s → Sound (add_released t n s)
sound_added t n s k l h =
    sound-permits _ _ (sound-adding n _ s.permits l (k.room l) h.permits) (sound_alter_task t (ticked t) s h)

pub sound-release : (t : TaskId) (n : ℕ) (s : State) → Releasable t n s → Sound s → Sound (release t n s).state
sound-release t n s k h =
    by_release (λ g. Sound g.state) t n s (λ e. h) (λ l f. sound-scan _ (sound_added t n s k l h)) (λ l f. sound_wake _ (sound_added t n s k l h))

-- Drop.

-- a state from which the request may go: sound, and the request waits no more
pub record Leavable (x : Slot) (s : State) : Type 0 where
  pub sound : Sound s
  pub unqueued : member x s.queue ≡ false
  pub unreserved : has_reservation x s ≡ false

pub leavable_then : {x : Slot} {s b : State} → Leavable x s → Sound b → NoMore s b → Leavable x b
leavable_then {x} k h n = record { sound = h; unqueued = n.queue x k.unqueued; unreserved = n.reservation x k.unreserved }

pub sound-drop_work : (d : Dropping) (t : TaskId) (x : Slot) (s : State)
    → DropSays d x s → Releasable t (returned d (asked_at x s)) s → Sound s → Leavable x (drop_work d t x s).state
unfolding drop_work
sound-drop_work Leaving t x s q k h =
    by_drop-queued (λ g. Leavable x g.state) x s
    (leavable_then gone (sound-scan (leave x s) gone.sound) (no_more_scan (leave x s)))
    (λ e. gone)
  where
    gone : Leavable x (leave x s)
    gone =
        record {
          sound = sound-leave x s h;
          unqueued = gone_without x s.queue h.once;
          unreserved = queued_unreserved x s h (sym (h.marked x) ∙ q);
        }
sound-drop_work Unreserving t x s q k h =
    leavable_then (record { sound = sound_unreserved s h; unqueued = sym (h.marked x) ∙ q.0; unreserved = refl })
    (sound_wake (with_reservation None s) (sound_unreserved s h)) (no_more_wake (with_reservation None s))
sound-drop_work Returning t x s q k h =
    leavable_then (record { sound = h; unqueued = sym (h.marked x) ∙ q.0; unreserved = q.1 })
    (sound-release t (asked_at x s) s k h) (no_more_release t (asked_at x s) s)
sound-drop_work Nothing t x s q k h = record { sound = h; unqueued = sym (h.marked x) ∙ q.0; unreserved = q.1 }

pub sound-drop : (t : TaskId) (x : Slot) (s : State) → in_use x s ≡ true → Releasable t (gives_back x s) s → Sound s → Sound (drop_request t x s).state
unfolding drop_request
sound-drop t x s u k h =
    let d = sound-drop_work (dropping x s) t x s (drop-says x s) k h in
    sound-free x _ (used-below x s h.slots u) d.unqueued d.unreserved d.sound

-- Close.

-- whether the semaphore is closed is nothing to the emptying of its queue and of its reservation
wake_closed : (x : Slot) (s : State) → wake_unfinished x (close s) ≡ close (wake_unfinished x s)
wake_closed x s = go (owner_finished x s)
  where
    go : (b : Bool) → cond b (close s) (close (unblock_and_wake (task_of x s) s)) ≡ close (cond b s (unblock_and_wake (task_of x s) s))
    go true = refl
    go false = refl

empty-closed : (q : List Slot) (s : State) → empty_queue q (close s) ≡ close (empty_queue q s)
unfolding empty_queue
empty-closed [] s = refl
empty-closed (x ∷ q) s = ap (λ (b : State). empty_queue q b) (wake_closed x (leave x s)) ∙ empty-closed q (wake_unfinished x (leave x s))

drop-closed : (o : Option Slot) (s : State) → drop_reservation o (close s) ≡ close (drop_reservation o s)
drop-closed None s = refl
drop-closed (Some x) s = wake_closed x (with_reservation None s)

-- so closing is nothing if closed, and else emptying both, and then closing
pub by_closing : (X : State → Type 0) (s : State)
    → X s → (s.closed ≡ false → X (close (drop_reservation s.reservation (empty_queue s.queue s)))) → X (closing s)
unfolding closing
by_closing X s f g =
    by_cond X s.closed (λ c. f) (λ o.
    let last = ap (λ (b : State). drop_reservation s.reservation b) (empty-closed s.queue s) ∙ drop-closed s.reservation _ in
    subst X (sym last) (g o))

pub record Emptied (s b : State) : Type 0 where
  pub sound : Sound b
  pub queue : b.queue ≡ []
  pub reservation : b.reservation ≡ s.reservation

pub empties : (q : List Slot) (s : State) → s.queue ≡ q → Sound s → Emptied s (empty_queue q s)
unfolding empty_queue without
empties [] s e h = record { sound = h; queue = e; reservation = refl }
empties (x ∷ q) s e h =
    let a = leave x s in
    let r = rouse_unfinished x a in
    let left = ap (λ (l : List Slot). without x l) e ∙ ap (λ (b : Bool). cond b q (x ∷ without x q)) (same_itself x) in
    let k = empties q (wake_unfinished x a) (roused_keeps (λ b. b.queue ≡ q) r left) (sound-roused r (sound-leave x s h)) in
    record { sound = k.sound; queue = k.queue; reservation = k.reservation ∙ roused_keeps (λ b. b.reservation ≡ s.reservation) r refl }

pub empties_reservation : (o : Option Slot) (s : State) → s.reservation ≡ o → s.queue ≡ [] → Sound s
    → Sound (drop_reservation o s) × ((drop_reservation o s).queue ≡ []) × ((drop_reservation o s).reservation ≡ None)
empties_reservation None s e q h = (h, q, e)
empties_reservation (Some x) s e q h =
    let r = rouse_unfinished x (with_reservation None s) in
    (sound-roused r (sound_unreserved s h), roused_keeps (λ b. b.queue ≡ []) r q, roused_keeps (λ b. b.reservation ≡ None) r refl)

pub sound-closing : (s : State) → Sound s → Sound (closing s)
sound-closing s h =
    by_closing Sound s h (λ o.
    let k = empties s.queue s refl h in
    let d = empties_reservation s.reservation (empty_queue s.queue s) k.reservation k.queue k.sound in
    sound-close _ d.1 d.2 d.0)

-- Every step.

pub take-fits : (k : Priority) (n : ℕ) (s : State) → direct k n s ≡ Take → n ≤ stock s
take-fits k n s e = (subst (λ (d : Direct). DirectSays d k n s) e (direct-says k n s)).3

sound_act : (t : TaskId) (a : Act) (s : State) → t.0 < length s.tasks → Allowed t a s → Sound s → Sound (effect_of t a s).state
sound_act t a s l k h =
    by_act {X = λ o r. Sound r.state}
    (record {
      makes = λ b m. sound-make t b s m.slot m.reserving h;
      polls = λ x p. sound-poll t x s l p h;
      tries = λ p n m c. sound_try (direct p n s) t n s (take-fits p n s) h;
      releases = λ n r. sound-release t n s r h;
      drops = λ x u r. sound-drop t x s u r h;
      closes = sound-closing s h;
      sleeps = sound_alter_task t slept s h;
      finishes = sound_alter_task t finished s h;
    })
    a k

pub sound-effect : (a : Step) (s : State) → refusal a s ≡ None → Sound s → Sound (effect a s).state
sound-effect a s e h =
    let k = accepted a s e in
    sound_act a.actor a.act s k.actor k.allowed h

-- what every accepted step keeps, every step keeps
pub by_refusal : (X : Outcome → Type 0) (a : Step) (s : State)
    → (refusal a s ≡ None → X (effect a s)) → ((n : ℕ) → refusal a s ≡ Some n → X (quiet (refused n) s)) → X (step a s)
unfolding step
by_refusal X a s f g = go (refusal a s) refl
  where
    go : (o : Option ℕ) → refusal a s ≡ o → X (unless o a s)
    go None e = f e
    go (Some n) e = g n e

pub sound-step : (a : Step) (s : State) → Sound s → Sound (step a s).state
sound-step a s h = by_refusal (λ o. Sound o.state) a s (λ e. sound-effect a s e h) (λ n e. h)

-- what every step keeps, every run keeps
pub by_run : (X : State → Type 0) → ((a : Step) (s : State) → X s → X (step a s).state) → (as' : List Step) (s : State) → X s → X (run as' s).state
unfolding run
by_run X k [] s h = h
by_run X k (a ∷ as') s h = by_run X k as' (step a s).state (k a s h)

pub sound-run : (as' : List Step) (s : State) → Sound s → Sound (run as' s).state
sound-run = by_run Sound sound-step

-- A fresh state.

pub fresh-number : (n k : ℕ) (rows : List ℕ) → length (fresh_tasks n k rows) ≡ k
unfolding fresh_tasks
fresh-number n zero rows = refl
fresh-number n (suc k) rows = ap suc (fresh-number n k (drop n rows))

-- no slot of a fresh state is in use
no_request_lem : (n i : ℕ) (rs : List (Option Request)) → rs ≡ replicate n None → is_some (get_or rs i None) ≡ false
no_request_lem n i rs e = ap (λ (l : List (Option Request)). is_some (get_or l i None)) e ∙ go n i
  where
    go : (n i : ℕ) → is_some {T = Request} (get_or (replicate n None) i None) ≡ false
    go zero i = refl
    go (suc n) zero = refl
    go (suc n) (suc i) = go n i

-- nothing queued, nothing reserved, no slot in use
pub sound_empty : (s : State) → s.slots ≡ replicate slot_count None → s.queue ≡ [] → s.reservation ≡ None
    → length s.tasks ≤ max_tasks → SoundPermits s.permits → Sound s
sound_empty s e q v l p =
    sound_of s (
    record {
      slots = ap (λ (rs : List (Option Request)). length rs) e;
      tasks = l;
      once = once-empty s.queue q;
      closed = λ c. (q, v);
      permits = p;
    }
    )
    (λ x.
    let free = free-request x s (no_request_lem slot_count x.0 s.slots e) in
    let out = absent_empty x s.queue q in
    record {
      queued = λ m. clash m out;
      marked = ap (λ (r : Request). r.queued) free ∙ sym out;
      reserves = λ f. let z : ◌≡◌ {A = ℕ} 0 1 = cc in absurd (omega arith);
      made = λ r. clash r (ap (λ (b : Request). b.ask.reserving) free);
    })

fresh-permits : (n : ℕ) (ts : List Task) (o : Option TaskId) (bs : List Batch) → fresh_batches n ts o ≡ Some bs → AddUp bs n
unfolding fresh_batches
fresh-permits n ts None bs e = let z : ◌≡◌ {A = ℕ} 0 1 = cc in absurd (omega arith)
fresh-permits n ts (Some t) bs e =
    let g : first_batch n (get_or ts t.0 no_task).clock ≡ bs = cc in
    subst (λ (l : List Batch). AddUp l n) g (first_adds_up n _)

pub sound-fresh : (a : Start) → refuses12 a ≡ false → Sound (fresh a)
unfolding fresh
sound-fresh a e =
    let few = (startable a e).few-tasks in
    sound_empty (fresh a) refl refl refl
    (omega (arith, fresh-number a.tasks a.tasks a.clocks))
    (fresh-permits a.stock (fresh_tasks a.tasks a.tasks a.clocks) a.maker)

pub sound-refused : Sound refused_fresh
unfolding refused_fresh
sound-refused = sound_empty refused_fresh refl refl refl (omega arith) (λ bs e. let z : ◌≡◌ {A = ℕ} 0 1 = cc in absurd (omega arith))
