-- Every step keeps the counts within their sizes, and every fresh state starts so.
use Rattle.std.specs.Prelude.{Option, None, Some}
use Prim.Native.Nat.{ℕ, zero, suc, ◌-◌, ◌*◌, ◌≤◌, ◌<◌}
use native.Mathlib.Omega.{arith}
use mathlib.Core.Path.{◌≡◌, refl, sym, subst, ◌∙◌}
use mathlib.Core.Bool.{Bool, true, false}
use mathlib.Core.List.{List, [], ◌∷◌, ◌++◌}
use lib.ListN.{length, take, drop, replicate, length-append, length-drop, length-replicate}
use lib.Seq.{length-take-le}
use Rattle.rules.specs.declared.TaskId.{TaskId}
use Rattle.rules.specs.declared.Slot.{Slot}
use Rattle.rules.specs.declared.Ask.{Ask}
use Rattle.rules.specs.declared.Grant.{Grant}
use Rattle.rules.specs.declared.Direct.{Direct}
use Rattle.rules.specs.declared.Direct.TheVariants.{Shut, NoPermits, Take}
use Rattle.rules.specs.declared.Polling.{Polling}
use Rattle.rules.specs.declared.Polling.TheVariants.{Holds, IsClosed, Stays, QueuesBack, QueuesFront, TakesReserved, Takes, Reserves}
use Rattle.rules.specs.declared.Dropping.{Dropping}
use Rattle.rules.specs.declared.Dropping.TheVariants.{Leaving, Unreserving, Returning, Nothing}
use Rattle.rules.specs.declared.Act.{Act}
use Rattle.rules.specs.declared.Step.{Step}
use Rattle.rules.specs.Sizes.{slot_count, batch_count, width, largest}
use Rattle.rules.specs.Clock.{empty}
use Rattle.rules.specs.Task.{Task, no_task, ticked, joined, slept, finished}
use Rattle.rules.specs.Request.{Request, queued_as, held, polled_pending, polled_granted, polled_closed}
use Rattle.rules.specs.State.{Batch, Permits, State, task_at, request_at, asked_at, task_of, with_reservation, alter_task, alter_request}
use Rattle.rules.specs.Fresh.{Start, fresh_tasks, fresh_batches, fresh, refuses12}
use Rattle.rules.specs.Taking.{taking, take_as, take_queued, direct}
use Rattle.rules.specs.Scan.{leave, queue_back, queue_front, grant_queued, walk, scan}
use Rattle.rules.specs.Waking.{wake_unfair, reblock}
use Rattle.rules.specs.Polling.{polling, poll_work, poll_mark, polled, takes_in}
use Rattle.rules.specs.Steps.{make, fail_try, try_by, poll, add_released, release, dropping, drop_work, free, drop_request, empty_queue, drop_reservation, closing, effect_of}
use Rattle.rules.specs.Refusals.{returned}
use Rattle.rules.specs.Runs.{step, run}
use Rattle.rules.specs.Broken.{set_up_batches}
use Rattle.rules.specs.Sound.{SoundPermits, Sound}
use Rattle.rules.specs.Promises.{Each, ClockFits, BatchFits, RequestFits, SlotFits, CountsFit, StartFits, ActFits, StepFits}
use Rattle.rules.proofs.Eaches.{each_member, each_append, each_set, each_at, each_take, each-drop, each_replicate}
use Rattle.rules.proofs.Tasks.{rouse_awake, by_cleared, rouse_unfair, rouse_unfinished, reblocks}
use Rattle.rules.proofs.KeepsScan.{by_walk}
use Rattle.rules.proofs.Accepting.{Releasable, MayTick, Allowed, accepted, startable}
use Rattle.rules.proofs.Acting.{AskFits, by_asking, asks-fit}
use Rattle.rules.proofs.Decisions.{by_release, by_drop-queued}
use Rattle.rules.proofs.KeepsSteps.{by_closing, by_refusal, fresh-number, sound-step, sound-fresh}
use Rattle.rules.proofs.Counts.{first_fits, join-fits, tick-fits, empty-fits, taking-fits, adding-fits, Counted, counted-roused, task-fits, counted-task, counted-slots, slots-altered, counted-permits, request-fits}

-- Pieces of the rules, on a state of n tasks.

module _ (n : ℕ) where
  -- where a request keeps its ask and clock, and names a task
  counted-altered : (x : Slot) (f : Request → Request) (s : State) → ((r : Request) → RequestFits n r → RequestFits n (f r))
      → Counted n s → Counted n (alter_request x f s)
  counted-altered x f s k h = counted-slots n (alter_request x f s) s refl refl (slots-altered n x f s k h) h

  -- a mark of a request changes nothing that counts
  abbrev Marks : (Request → Request) → Type 0
  Marks f = (r : Request) → RequestFits n r → RequestFits n (f r)

  marks_queued : (b : Bool) → Marks (queued_as b)
  marks_queued b r h = record { asked = h.asked; least = h.least; clock = h.clock; task = h.task }

  marks_held : Marks held
  marks_held r h = record { asked = h.asked; least = h.least; clock = h.clock; task = h.task }

  marks_granted : Marks polled_granted
  marks_granted r h = record { asked = h.asked; least = h.least; clock = h.clock; task = h.task }

  marks_closed : Marks polled_closed
  marks_closed r h = record { asked = h.asked; least = h.least; clock = h.clock; task = h.task }

  marks_pending : (t : TaskId) → t.0 < n → Marks (polled_pending t)
  marks_pending t l r h = record { asked = h.asked; least = h.least; clock = h.clock; task = l }

  -- the queue, the reservation and whether it is closed are no counts
  pub counted-leave : (x : Slot) (s : State) → Counted n s → Counted n (leave x s)
  counted-leave x s h = counted-slots n (leave x s) s refl refl (slots-altered n x (queued_as false) s (marks_queued false) h) h

  counted-reservation : (v : Option Slot) (s : State) → Counted n s → Counted n (with_reservation v s)
  counted-reservation v s h = counted-slots n (with_reservation v s) s refl refl h.requests h

  counted-take : (t : TaskId) (m : ℕ) (s : State) → MayTick t s → Counted n s → Counted n (take_as t m s)
  unfolding take_as
  counted-take t m s l h =
      let k = taking-fits m (task_at t s).clock s.permits (task-fits n t s h) h.permits in
      counted-task n t (λ a. joined (taking m (task_at t s).clock s.permits).clock (ticked t a)) _
      (join-fits _ _ (tick-fits t.0 (task_at t s).clock l (task-fits n t s h)) k.clock)
      (counted-permits n _ s k.permits h)

  pub counted-grant : (x : Slot) (s : State) → Counted n s → Counted n (grant_queued x s)
  unfolding grant_queued take_queued
  counted-grant x s h =
      let k = taking-fits (asked_at x s) (request_at x s).clock s.permits (request-fits n x s h) h.permits in
      let a =
      counted-task n (task_of x s) (joined (taking (asked_at x s) (request_at x s).clock s.permits).clock) _
      (join-fits _ _ (task-fits n (task_of x s) s h) k.clock) (counted-permits n _ s k.permits h)
      in
      counted-roused n (rouse_awake (task_of x s) (alter_request x held (leave x (take_queued x s))))
      (counted-altered x held (leave x (take_queued x s)) marks_held (counted-leave x (take_queued x s) a))

  counted-walk : (q : List Slot) (s : State) (gs : List Grant) → Counted n s → Counted n (walk q s gs).state
  counted-walk =
      by_walk {P = λ q s gs. Counted n s} {R = λ g. Counted n g.state} (
      record {
        leaves = λ x q s gs k h. counted-leave x s h;
        fits = λ x q s gs k h. counted-grant x s h;
        passed = λ x q s gs k h. h;
        ends = λ x q s gs k h. h;
        over = λ s gs h. h;
      }
      )

  counted-scan : (s : State) → Counted n s → Counted n (scan s).state
  unfolding scan
  counted-scan s h = counted-walk s.queue s [] h

  counted_wake : (s : State) → Counted n s → Counted n (wake_unfair s)
  counted_wake s h = counted-roused n (rouse_unfair s) (by_cleared (Counted n) s h (counted-reservation None s h))

  -- Steps.

  module _ (s : State) (h : Counted n s) where
    counted-make : (t : TaskId) (a : Ask) → t.0 < n → a.asked ≤ largest → a.least ≤ largest → Counted n (make t a s).state
    unfolding make
    counted-make t a l m k =
        counted-slots n _ s refl refl
        (each_set (SlotFits n) s.slots _ _ h.requests (record { asked = m; least = k; clock = task-fits n t s h; task = l })) h

    counted-poll : (p : Polling) (t : TaskId) (x : Slot) → t.0 < n → (takes_in p ≡ true → MayTick t s)
        → Counted n (alter_request x (poll_mark (polled p) t) (poll_work p t x s))
    unfolding poll_work
    counted-poll Holds t x l k = counted-altered x polled_granted s marks_granted h
    counted-poll IsClosed t x l k = counted-altered x polled_closed s marks_closed h
    counted-poll Stays t x l k = counted-altered x (polled_pending t) s (marks_pending t l) h
    counted-poll QueuesBack t x l k =
        counted-altered x (polled_pending t) (queue_back x s) (marks_pending t l)
        (counted-slots n (queue_back x s) s refl refl (slots-altered n x (queued_as true) s (marks_queued true) h) h)
    counted-poll QueuesFront t x l k =
        counted-altered x (polled_pending t) (queue_front x s) (marks_pending t l)
        (counted-slots n (queue_front x s) s refl refl (slots-altered n x (queued_as true) s (marks_queued true) h) h)
    counted-poll TakesReserved t x l k =
        let a = with_reservation None s in
        let b = take_as t (asked_at x s) a in
        counted-altered x polled_granted (wake_unfair b) marks_granted
        (counted_wake b (counted-take t (asked_at x s) a (k refl) (counted-reservation None s h)))
    counted-poll Takes t x l k =
        let a = leave x (take_as t (asked_at x s) s) in
        counted-altered x polled_granted (reblock t a) marks_granted
        (counted-roused n (reblocks t a) (counted-leave x _ (counted-take t (asked_at x s) s (k refl) h)))
    counted-poll Reserves t x l k =
        let a = with_reservation (Some x) (leave x s) in
        counted-altered x (polled_pending t) (reblock t a) (marks_pending t l)
        (counted-roused n (reblocks t a) (counted-reservation (Some x) (leave x s) (counted-leave x s h)))

    counted_failed : (t : TaskId) → MayTick t s → Counted n (fail_try t s)
    counted_failed t l =
        counted-task n t (λ a. joined s.permits.last (ticked t a)) s
        (join-fits _ _ (tick-fits t.0 _ l (task-fits n t s h)) h.permits.last) h

    counted_try : (d : Direct) (t : TaskId) (m : ℕ) → MayTick t s → Counted n (try_by d t m s).state
    unfolding try_by
    counted_try Shut t m l = counted_failed t l
    counted_try NoPermits t m l = counted_failed t l
    counted_try Take t m l = counted-roused n (reblocks t (take_as t m s)) (counted-take t m s l h)

    pub counted_added : (t : TaskId) (m : ℕ) → Releasable t m s → 0 < m → Counted n (add_released t m s)
    counted_added t m k l =
        let a = counted-task n t (ticked t) s (tick-fits t.0 _ (k.tick l) (task-fits n t s h)) h in
        counted-permits n _ (alter_task t (ticked t) s)
        (adding-fits m _ s.permits (k.fits l) (task-fits n t (alter_task t (ticked t) s) a) h.permits) a

    counted-release : (t : TaskId) (m : ℕ) → Releasable t m s → Counted n (release t m s).state
    counted-release t m k =
        by_release (λ g. Counted n g.state) t m s (λ e. h)
        (λ l f. counted-scan _ (counted_added t m k l)) (λ l f. counted_wake _ (counted_added t m k l))

    counted-drop : (d : Dropping) (t : TaskId) (x : Slot) → Releasable t (returned d (asked_at x s)) s → Counted n (drop_work d t x s).state
    unfolding drop_work
    counted-drop Leaving t x k =
        by_drop-queued (λ g. Counted n g.state) x s (counted-scan (leave x s) (counted-leave x s h)) (λ e. counted-leave x s h)
    counted-drop Unreserving t x k = counted_wake (with_reservation None s) (counted-reservation None s h)
    counted-drop Returning t x k = counted-release t (asked_at x s) k
    counted-drop Nothing t x k = h

  counted-free : (x : Slot) (s : State) → Counted n s → Counted n (free x s)
  counted-free x s h = counted-slots n (free x s) s refl refl (each_set (SlotFits n) s.slots x.0 None h.requests tt) h

  counted-empty : (q : List Slot) (s : State) → Counted n s → Counted n (empty_queue q s)
  unfolding empty_queue
  counted-empty [] s h = h
  counted-empty (x ∷ q) s h = counted-empty q _ (counted-roused n (rouse_unfinished x (leave x s)) (counted-leave x s h))

  counted-closing : (s : State) → Counted n s → Counted n (closing s)
  counted-closing s h =
      by_closing (Counted n) s h (λ o.
      let k = go s.reservation (counted-empty s.queue s h) in
      record { number = k.number; permits = k.permits; tasks = k.tasks; requests = k.requests })
    where
      go : (o : Option Slot) {b : State} → Counted n b → Counted n (drop_reservation o b)
      go None k = k
      go (Some x) {b} k = counted-roused n (rouse_unfinished x (with_reservation None b)) (counted-reservation None b k)

  counted_act : (t : TaskId) (a : Act) (s : State) → t.0 < n → Allowed t a s → ActFits a → Counted n s → Counted n (effect_of t a s).state
  unfolding poll drop_request
  counted_act t a s l k f h =
      by_asking {F = AskFits} {X = λ o r. Counted n r.state}
      (record {
        makes = λ b m. counted-make s h t b l m.such.0 m.such.1;
        polls = λ x p. counted-poll s h (polling x s) t x l p.tick;
        tries = λ p m o c. counted_try s h (direct p m s) t m c;
        releases = λ m r. counted-release s h t m r;
        drops = λ x u r. counted-free x _ (counted-drop s h (dropping x s) t x r);
        closes = counted-closing s h;
        sleeps = counted-task n t slept s (task-fits n t s h) h;
        finishes = counted-task n t finished s (task-fits n t s h) h;
      })
      a (asks-fit a s f) k

-- Any run.

pub record Fitting (n : ℕ) (s : State) : Type 0 where
  pub sound : Sound s
  pub counted : Counted n s

pub fitting_step : (n : ℕ) (a : Step) (s : State) → StepFits a → Fitting n s → Fitting n (step a s).state
fitting_step n a s f h =
    record {
      sound = sound-step a s h.sound;
      counted =
          by_refusal (λ o. Counted n o.state) a s
          (λ e.
          let k = accepted a s e in
          counted_act n a.actor a.act s (omega (arith, k.actor, h.counted.number)) k.allowed f h.counted)
          (λ r e. h.counted);
    }

pub fitting_run : (n : ℕ) (as' : List Step) (s : State) → Each StepFits as' → Fitting n s → Fitting n (run as' s).state
unfolding run
fitting_run n [] s f h = h
fitting_run n (a ∷ as') s f h = fitting_run n as' (step a s).state f.1 (fitting_step n a s f.0 h)

-- A fresh state.

row_fits : (n : ℕ) (rows : List ℕ) → n ≤ width → n ≤ length rows → Each (λ m. m ≤ largest) rows → ClockFits (take n rows ++ empty (width - n))
unfolding empty
row_fits n rows w l h =
    record {
      wide = length-append (take n rows) (replicate (width - n) 0) ∙ omega (arith, length-take-le n rows l, length-replicate {A = ℕ} (width - n) 0);
      entries =
          each_append (λ m. m ≤ largest) (take n rows) _ (each_take (λ m. m ≤ largest) n rows h)
          (each_replicate (λ m. m ≤ largest) (width - n) 0 (omega arith));
    }

rows_fit : (n k : ℕ) (rows : List ℕ) → n ≤ width → length rows ≡ k * n → Each (λ m. m ≤ largest) rows
    → Each (λ (a : Task). ClockFits a.clock) (fresh_tasks n k rows)
unfolding fresh_tasks
rows_fit n zero rows w e h = tt
rows_fit n (suc k) rows w e h =
    (row_fits n rows w (omega arith) h, rows_fit n k (drop n rows) w (length-drop n rows ∙ omega arith) (each-drop (λ m. m ≤ largest) n rows h))

batches-fit : (n : ℕ) (ts : List Task) (o : Option TaskId) → n ≤ largest → Each (λ (a : Task). ClockFits a.clock) ts
    → Each BatchFits (set_up_batches (fresh_batches n ts o))
unfolding fresh_batches
batches-fit n ts None l h = tt
batches-fit n ts (Some t) l h = first_fits n _ l (each_at (λ (a : Task). ClockFits a.clock) ts t.0 no_task h empty-fits)

pub fitting_fresh : (a : Start) → refuses12 a ≡ false → StartFits a → Fitting a.tasks (fresh a)
unfolding fresh
fitting_fresh a e f =
    let k = startable a e in
    let ts = rows_fit a.tasks a.tasks a.clocks k.few-tasks k.clocks f.clocks in
    record {
      sound = sound-fresh a e;
      counted =
          record {
            number = fresh-number a.tasks a.tasks a.clocks;
            permits = record { stock = f.stock; batches = batches-fit a.stock _ a.maker f.stock ts; last = empty-fits };
            tasks = ts;
            requests = each_replicate (SlotFits a.tasks) slot_count None tt;
          };
    }

-- What a fitting state promises.

batch_number : (p : Permits) → SoundPermits p → length (set_up_batches p.batches) ≤ batch_count
batch_number p h = go p.batches refl
  where
    go : (o : Option (List Batch)) → p.batches ≡ o → length (set_up_batches o) ≤ batch_count
    go None e = omega arith
    go (Some bs) e = (h bs e).room

pub counts-fit : (n : ℕ) (s : State) → Fitting n s → CountsFit s
counts-fit n s h =
    record {
      stock = h.counted.permits.stock;
      batches = h.counted.permits.batches;
      batch_number = batch_number s.permits h.sound.permits;
      last = h.counted.permits.last;
      tasks = h.counted.tasks;
      task-number = h.sound.tasks;
      requests = subst (λ (k : ℕ). Each (SlotFits k) s.slots) (sym h.counted.number) h.counted.requests;
      slot-number = h.sound.slots;
      queue = each_member (λ x. x.0 < slot_count) s.queue (λ x m. (h.sound.queued x m).below);
      queue-number = h.sound.room;
      reservation = λ x e. (h.sound.reserves x e).waits.below;
    }
