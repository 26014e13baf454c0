-- The view of the whole: its plain part, its permits, and what is read of its tasks and slots.
use Rattle.std.specs.Prelude.{Option, None, Some, is_some, unwrap_or}
use Prim.Native.Nat.{ℕ, zero, suc, ◌+◌, ◌*◌, ◌≤◌, ◌<◌, min}
use native.Mathlib.Decide.{dec_lt}
use native.Mathlib.Nat.{zero-add, le_of_suc-le-suc}
use native.Mathlib.Omega.{arith}
use mathlib.Core.Path.{◌≡◌, refl, sym, ap, ◌∙◌}
use mathlib.Core.Bool.{Bool, true, false, cond}
use mathlib.Core.List.{List, [], ◌∷◌, map}
use lib.ListN.{length, get_or, take, get_or-eq_default}
use lib.Seq.{get_or-take}
use Rattle.rules.specs.declared.TaskId.{TaskId}
use Rattle.rules.specs.declared.Slot.{Slot}
use Rattle.rules.specs.Sizes.{width, max_tasks, slot_count}
use Rattle.rules.specs.Clock.{Clock, empty}
use Rattle.rules.specs.Task as T
use Rattle.rules.specs.Request as R
use Rattle.rules.specs.State.{available, task_at, in_use, request_at}
use Rattle.splitting.specs.Plain as P
use Rattle.splitting.specs.Split.{forget, forget_task, forget_request, whole_tasks, whole_slots, whole}
use Rattle.splitting.specs.Kept.{in_slots}
use Rattle.splitting.proofs.Whole.{forget-whole}
use Rattle.splitting.proofs.Changes.{task-plain, request-plain, used-plain}
use Rattle.tables.specs.Table.{row}
use Rattle.tables.proofs.Tables.{table_get, table_past, table-length}
use Rattle.clock.specs.declared.VectorClock.{VectorClock}
use Rattle.records.specs.declared.Request.{Request}
use Rattle.records.specs.declared.Task.{Task}
use Rattle.records.specs.View.{task_seen, request_of, Stands}
use Rattle.words.specs.View.{task_words, task_in, tasks_of, slots_of}
use Rattle.batches.specs.Broken.{permits_of}
use Rattle.times.specs.View.{clocks_at, clock_in}
use Rattle.state.specs.declared.BatchSemaphore.{BatchSemaphore}
use Rattle.state.specs.View.{Words, plain_in, view_of, RequestRead}

module _ (s : BatchSemaphore) (w : Words) where
  -- without clocks it is who
  pub forget-view : forget (view_of s w) ≡ plain_in s w
  forget-view = forget-whole (plain_in s w) _

  pub view-permits : (view_of s w).permits ≡ permits_of s.head.stock s.batches w.sizes w.rows (row width w.last 0)
  unfolding whole
  view-permits = refl

  pub view-task : (t : TaskId) → forget_task (task_at t (view_of s w)) ≡ P.task_at t (plain_in s w)
  view-task t = sym (task-plain t (view_of s w)) ∙ ap (P.task_at t) forget-view

  pub view-request : (x : Slot) → forget_request (request_at x (view_of s w)) ≡ P.request_at x (plain_in s w)
  view-request x = sym (request-plain x (view_of s w)) ∙ ap (P.request_at x) forget-view

  pub view-used : (x : Slot) → in_use x (view_of s w) ≡ P.in_use x (plain_in s w)
  view-used x = sym (used-plain x (view_of s w)) ∙ ap (P.in_use x) forget-view

-- ---- clocks of the whole
whole-clock : (ts : List P.Task) (cs : List Clock) (i : ℕ) → i < length ts → (get_or (whole_tasks ts cs) i T.no_task).clock ≡ get_or cs i (empty width)
unfolding whole_tasks
whole-clock [] cs i h = absurd (omega arith)
whole-clock (a ∷ ts) [] zero h = refl
whole-clock (a ∷ ts) (c ∷ cs) zero h = refl
whole-clock (a ∷ ts) [] (suc i) h = whole-clock ts [] i (le_of_suc-le-suc h)
whole-clock (a ∷ ts) (c ∷ cs) (suc i) h = whole-clock ts cs i (le_of_suc-le-suc h)

whole_length_lem : (ts : List P.Task) (cs : List Clock) → length (whole_tasks ts cs) ≡ length ts
unfolding whole_tasks
whole_length_lem [] cs = refl
whole_length_lem (a ∷ ts) [] = ap suc (whole_length_lem ts [])
whole_length_lem (a ∷ ts) (c ∷ cs) = ap suc (whole_length_lem ts cs)

-- in use, its maker's clock; in a free slot the empty one
request-clock : (rs : List (Option P.Request)) (cs : List Clock) (i : ℕ)
    → (unwrap_or (get_or (whole_slots rs (in_slots (map is_some rs) cs)) i None) R.no_request).clock ≡ cond (is_some (get_or rs i None)) (get_or cs i (empty width)) (empty width)
unfolding whole_slots in_slots
request-clock [] cs i = refl
request-clock (None ∷ rs) [] zero = refl
request-clock (None ∷ rs) (c ∷ cs) zero = refl
request-clock (Some r ∷ rs) [] zero = refl
request-clock (Some r ∷ rs) (c ∷ cs) zero = refl
request-clock (None ∷ rs) [] (suc i) = request-clock rs [] i
request-clock (None ∷ rs) (c ∷ cs) (suc i) = request-clock rs cs i
request-clock (Some r ∷ rs) [] (suc i) = request-clock rs [] i
request-clock (Some r ∷ rs) (c ∷ cs) (suc i) = request-clock rs cs i

-- ---- reads
pub available-read : (s : BatchSemaphore) (n : ℕ) → n ≡ cond (is_some s.head.reservation) 0 s.head.stock → (w : Words) → n ≡ available (view_of s w)
unfolding whole
available-read s n e w = e

-- tasks past those that have words are as where no task stands
tasks_worded : (n i : ℕ) (xs : List ℕ) → length xs ≡ max_tasks * task_words → get_or (tasks_of (min n max_tasks) xs) i P.no_task ≡ get_or (tasks_of n xs) i P.no_task
unfolding tasks_of
tasks_worded n i xs sized =
    elim (dec_lt i n) [
      | yes l ↦ elim (dec_lt i max_tasks) [
        | yes h ↦ rw (table_get (task_in xs) P.no_task (min n max_tasks) i 0 (omega arith), table_get (task_in xs) P.no_task n i 0 l)
        | no h ↦
            let a : get_or xs (2 * i) 0 ≡ 0 = get_or-eq_default xs 0 (omega arith) in
            let b : get_or xs (2 * i + 1) 0 ≡ 0 = get_or-eq_default xs 0 (omega arith) in
            rw (table_past (task_in xs) P.no_task (min n max_tasks) i (omega arith), table_get (task_in xs) P.no_task n i 0 l, zero-add i, a, b)
      ]
      | no l ↦ rw (table_past (task_in xs) P.no_task (min n max_tasks) i (omega arith), table_past (task_in xs) P.no_task n i (omega arith))
    ]

pub task-read : (s : BatchSemaphore) (t : TaskId) (xs : List ℕ) (n : ℕ) (r : Task) → n ≡ min s.head.tasks max_tasks → length xs ≡ max_tasks * task_words
    → task_seen r ≡ get_or (tasks_of n xs) t.0 P.no_task → (w : Words) → w.tasks ≡ xs → task_seen r ≡ forget_task (task_at t (view_of s w))
task-read s t xs n r m l e w q =
    let f : get_or (tasks_of n xs) t.0 P.no_task ≡ get_or (tasks_of s.head.tasks xs) t.0 P.no_task = rw m (tasks_worded s.head.tasks t.0 xs l) in
    e ∙ f ∙ sym (view-task s w t ∙ rw q)

module _ (s : BatchSemaphore) (t : TaskId) (c : VectorClock) where
  count : (w : Words) → length (plain_in s w).tasks ≡ s.head.tasks
  unfolding tasks_of
  count w = table-length (task_in w.tasks) P.no_task s.head.tasks 0

  pub clock-read : (xs : List ℕ) → t.0 < s.head.tasks → c.0 ≡ clock_in max_tasks xs t.0 → (w : Words) → w.clocks ≡ xs → c.0 ≡ (task_at t (view_of s w)).clock
  unfolding whole
  clock-read xs h e w q =
      let n = count w in
      let l : t.0 < length (plain_in s w).tasks = omega arith in
      e ∙ sym (whole-clock (plain_in s w).tasks _ t.0 l ∙ rw (get_or-take (length (plain_in s w).tasks) (clocks_at max_tasks w.clocks) t.0 (empty width) l, q))

  pub clock_past : s.head.tasks ≤ t.0 → c.0 ≡ empty width → (w : Words) (xs : List ℕ) → w.clocks ≡ xs → c.0 ≡ (task_at t (view_of s w)).clock
  unfolding whole
  clock_past h e w xs q =
      let n = count w in
      let l = whole_length_lem (plain_in s w).tasks (take (length (plain_in s w).tasks) (clocks_at max_tasks w.clocks)) in
      e ∙ sym (ap (λ (a : T.Task). a.clock) (get_or-eq_default (view_of s w).tasks T.no_task (omega arith)))

-- what stands at a slot is in use where there is a request
stands-used : (r : Request) (o : Option P.Request) → Stands r o → r.used ≡ is_some o
stands-used r o h = rw (← h.used) (go r.used)
  where
    go : (b : Bool) → b ≡ is_some (cond b (Some (request_of r)) None)
    go true = refl
    go false = refl

module _ (s : BatchSemaphore) (x : Slot) (xs : List ℕ) (r : Request) (h : Stands r (get_or (slots_of xs) x.0 None)) where
  pub request-read : (w : Words) → w.slots ≡ xs → RequestRead r x (view_of s w)
  request-read w q =
      record {
        used = stands-used r _ h ∙ sym (view-used s w x ∙ rw q);
        request = h.view ∙ sym (view-request s w x ∙ rw q);
      }

  whose : (w : Words) → w.slots ≡ xs → (request_at x (view_of s w)).clock ≡ cond r.used (clock_in slot_count w.makers x.0) (empty width)
  unfolding whole
  whose w q = request-clock (slots_of w.slots) (clocks_at slot_count w.makers) x.0 ∙ rw (q, stands-used r _ h)

  module _ (c : VectorClock) where
    pub maker-read : (ys : List ℕ) → r.used ≡ true → c.0 ≡ clock_in slot_count ys x.0 → (w : Words) → w.slots ≡ xs → w.makers ≡ ys → c.0 ≡ (request_at x (view_of s w)).clock
    maker-read ys u e w q m = e ∙ sym (whose w q ∙ rw (u, m))

    pub maker_none : r.used ≡ false → c.0 ≡ empty width → (w : Words) → w.slots ≡ xs → c.0 ≡ (request_at x (view_of s w)).clock
    maker_none u e w q = e ∙ sym (whose w q ∙ rw u)
