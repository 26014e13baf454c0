-- The verdict, a joining, a leaving and a grant put together from their parts.
use Rattle.std.specs.Prelude.{Option, None, Some, option_map, remove}
use Prim.Native.Nat.{ℕ, ◌-◌, ◌≤◌, ◌<◌}
use native.Mathlib.Decide.{dec_lt}
use native.Mathlib.Omega.{arith}
use mathlib.Core.Path.{◌≡◌, refl, sym, ap, subst, ◌∙◌}
use mathlib.Core.Bool.{Bool, true, false, cond}
use mathlib.Core.List.{List, [], ◌∷◌, ◌++◌}
use borrow.Author.Tests.{leb-true}
use lib.Dec.{leb}
use lib.ListN.{length, get_or, set, length-take}
use lib.Seq.{get_or-set_same, set-set, set_out}
use Rattle.rules.specs.declared.Slot.{Slot}
use Rattle.rules.specs.declared.Verdict.{Verdict}
use Rattle.rules.specs.declared.Verdict.TheVariants.{Leaves, Fits, Passed, Ends}
use Rattle.rules.specs.Task.{is_finished}
use Rattle.rules.specs.Request.{is_bypassable}
use Rattle.rules.specs.Scan.{without}
use Rattle.rules.proofs.Bools.{by_cond}
use Rattle.splitting.specs.Plain.{Plain, Task, Request as RequestRule, no_task, queued_as, held, unblocked, wakened, request_at, with_queue, alter_request, ◌▷◌}
use Rattle.splitting.specs.Who.{queue_back, queue_front, leave, verdict, grant_queued}
use Rattle.queue.specs.declared.Waiters.{Waiters}
use Rattle.queue.specs.View.{waiters_of, Holds}
use Rattle.records.specs.declared.Request.{Request}
use Rattle.records.specs.declared.Marking.{Marking}
use Rattle.records.specs.declared.Marking.TheVariants.{Joins, Leaves as LeavesQueue, IsGranted}
use Rattle.records.specs.View.{Stands, marking}
use Rattle.words.specs.View.{slots_of, tasks_of, altered, SlotsShow, TasksShow}
use Rattle.head.specs.declared.Head.{Head}
use Rattle.head.specs.View.{plain_of, Shaped, Shows}
use Rattle.head.proofs.Shown.{head_with, head-shaped, slots_shown, both_shaped}
use Rattle.scanning.specs.View.{AnyTasks, StandsAt, verdict_as}
use Rattle.scanning.proofs.Places.{removed_at}

-- ---- the verdict
module _ (ts : List Task) (r : RequestRule) (n : ℕ) where
  abbrev Says : Verdict → Type 0
  Says Leaves = 0 ≤ n
  Says Fits = r.ask.asked ≤ n
  Says Passed = 0 ≤ n
  Says Ends = 0 ≤ n

  says : Says (verdict_as ts r n)
  says =
      by_cond Says (is_finished (get_or ts r.task.0 no_task).state) (λ f. omega arith) (λ f.
      by_cond Says (leb r.ask.asked n) (λ l. leb-true r.ask.asked n l) (λ l.
      by_cond Says (is_bypassable r.ask.kind) (λ b. omega arith) (λ b. omega arith)))

  pub fits-says : (v : Verdict) → v ≡ verdict_as ts r n → v ≡ Fits → r.ask.asked ≤ n
  fits-says v e f = subst Says (sym e ∙ f) says

pub judged_there : (s : Plain) (x : Slot) (r : RequestRule) → r ≡ request_at x s → verdict_as s.tasks r s.stock ≡ verdict x s
unfolding verdict
judged_there s x r e = ap (λ (q : RequestRule). verdict_as s.tasks q s.stock) e

-- ---- joining and leaving

abbrev queueing : Head → Waiters → Head
queueing h w = head_with h.stock w h.reservation h

module _ (h : Head) (slots after : List ℕ) (x : Slot) (w : Waiters) (m : Marking)
    (e : SlotsShow after slots (altered x (marking m) (slots_of slots))) (k : length after ≡ length slots) where
  -- another queue, and the mark
  queued_so : (q : List Slot) → Holds w q → AnyTasks (λ s. s ▷ with_queue q ▷ alter_request x (marking m)) (queueing h w) after h slots
  queued_so q lo tasks s =
      record {
        shaped = head-shaped h after tasks (slots_shown h slots tasks s after _ e k).shaped h.stock w h.reservation lo.fits;
        view =
            λ i.
            record {
              fairness = h.fairness;
              closed = h.closed;
              stock = h.stock;
              queue = lo.view i;
              reservation = h.reservation;
              tasks = tasks_of h.tasks tasks;
              slots = e.view i;
            };
      }

module _ (h : Head) (slots after : List ℕ) (x : Slot) (w : Waiters) where
  pub joined_so : (b : Bool) → Holds w (cond b (x ∷ waiters_of h.waiters) (waiters_of h.waiters ++ x ∷ []))
      → SlotsShow after slots (altered x (marking Joins) (slots_of slots)) → length after ≡ length slots
      → AnyTasks (λ s. cond b (queue_front x s) (queue_back x s)) (queueing h w) after h slots
  joined_so true lo e k = queued_so h slots after x w Joins e k (x ∷ waiters_of h.waiters) lo
  joined_so false lo e k = queued_so h slots after x w Joins e k (waiters_of h.waiters ++ x ∷ []) lo

  module _ (e : SlotsShow after slots (altered x (marking LeavesQueue) (slots_of slots))) (k : length after ≡ length slots) where
    pub left_so : Holds w (without x (waiters_of h.waiters)) → AnyTasks (leave x) (queueing h w) after h slots
    left_so lo = queued_so h slots after x w LeavesQueue e k (without x (waiters_of h.waiters)) lo

    pub left_at : (i : ℕ) → StandsAt x i (waiters_of h.waiters) → Holds w (remove (waiters_of h.waiters) i) → AnyTasks (leave x) (queueing h w) after h slots
    left_at i p lo = left_so (subst (λ (q : List Slot). Holds w q) (removed_at x i (waiters_of h.waiters) p) lo)

-- its place is within the array
pub queue-within : (w : Waiters) → length (waiters_of w) ≤ w.len
unfolding waiters_of
queue-within w = simp length-take (omega arith)

pub place-within : (w : Waiters) (i : ℕ) (x : Slot) → StandsAt x i (waiters_of w) → i < w.len
place-within w i x p = omega (arith, p.within, queue-within w)

-- ---- a grant

-- one place altered twice
alter_twice : {A : Type 0} (l : List A) (i : ℕ) (d : A) (f g : A → A)
    → set (set l i (f (get_or l i d))) i (g (get_or (set l i (f (get_or l i d))) i d)) ≡ set l i (g (f (get_or l i d)))
alter_twice l i d f g =
    elim (dec_lt i (length l)) [
      | yes h ↦ rw (get_or-set_same l i (f (get_or l i d)) d h, set-set l i (f (get_or l i d)) (g (f (get_or l i d))))
      | no h ↦ rw (set_out l i (f (get_or l i d)) (omega arith), set_out l i (g (get_or l i d)) (omega arith), set_out l i (g (f (get_or l i d))) (omega arith))
    ]

map-twice : (f g : RequestRule → RequestRule) (o : Option RequestRule) → option_map (λ r. g (f r)) o ≡ option_map g (option_map f o)
map-twice f g None = refl
map-twice f g (Some r) = refl

abbrev roused_in : List Task → ℕ → List Task
roused_in ts t = set ts t (wakened (unblocked (get_or ts t no_task)))

module _ (h : Head) (slots later tasks awake : List ℕ) (x : Slot) (i : ℕ) (q : Request) (w : Waiters)
    (s : Shaped h slots tasks) (st : Stands q (get_or (slots_of slots) x.0 None))
    (p : StandsAt x i (waiters_of h.waiters)) (lo : Holds w (remove (waiters_of h.waiters) i))
    (es : SlotsShow later slots (altered x (marking IsGranted) (slots_of slots))) (ks : length later ≡ length slots)
    (et : TasksShow h.tasks awake tasks (roused_in (tasks_of h.tasks tasks) q.task)) (kt : length awake ≡ length tasks) where
  slots-after : slots_of later ≡ altered x held (altered x (queued_as false) (slots_of slots))
  slots-after =
      es.view
      ∙ ap (λ (o : Option RequestRule). set (slots_of slots) x.0 o) (map-twice (queued_as false) held (get_or (slots_of slots) x.0 None))
      ∙ sym (alter_twice (slots_of slots) x.0 None (option_map (queued_as false)) (option_map held))

  tasks-after : tasks_of h.tasks awake ≡ roused_in (tasks_of h.tasks tasks) (request_at x (plain_of h slots tasks)).task.0
  tasks-after = et.view ∙ ap (λ (z : RequestRule). roused_in (tasks_of h.tasks tasks) z.task.0) st.view

  stock-after : h.stock - q.ask.asked ≡ h.stock - (request_at x (plain_of h slots tasks)).ask.asked
  stock-after = ap (λ (z : RequestRule). h.stock - z.ask.asked) st.view

  queue-after : waiters_of w ≡ without x (waiters_of h.waiters)
  queue-after = lo.view ∙ removed_at x i (waiters_of h.waiters) p

  pub granted_so : Shows (head_with (h.stock - q.ask.asked) w h.reservation h) later awake (grant_queued x (plain_of h slots tasks))
  unfolding grant_queued
  granted_so =
      record {
        shaped = head-shaped h later awake (both_shaped h slots tasks later awake s _ _ es ks et kt) (h.stock - q.ask.asked) w h.reservation lo.fits;
        view =
            λ j.
            record {
              fairness = h.fairness;
              closed = h.closed;
              stock = stock-after j;
              queue = queue-after j;
              reservation = h.reservation;
              tasks = tasks-after j;
              slots = slots-after j;
            };
      }
