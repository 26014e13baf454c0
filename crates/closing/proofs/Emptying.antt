-- The queue emptied a slot a turn: what is left to do after i turns comes to the whole.
use Rattle.std.specs.Prelude.{Option}
use Prim.Native.Nat.{ℕ, suc, ◌+◌, ◌≤◌, ◌<◌}
use native.Mathlib.Numerals.{add-one}
use mathlib.Core.Path.{◌≡◌, refl, sym, ap, ◌∙◌}
use mathlib.Core.Bool.{Bool, true, false, cond, not}
use mathlib.Core.List.{List, [], ◌∷◌}
use lib.ListN.{length, get_or, drop, drop_of_length-le}
use lib.Seq.{drop-cons}
use Rattle.rules.specs.declared.Slot.{Slot}
use Rattle.rules.specs.Scan.{without}
use Rattle.rules.proofs.Queues.{same_itself}
use Rattle.splitting.specs.Plain.{Plain, Task, Request, queued_as, request_at, owner_finished, task_of, alter_request, unblock_and_wake, with_queue, with_tasks, with_slots}
use Rattle.splitting.specs.Who.{wake_unfinished, empty_queue}
use Rattle.queue.specs.declared.Waiters.{Waiters}
use Rattle.queue.specs.View.{waiters_of, Holds}
use Rattle.words.specs.View.{slots_of, altered, SlotsShow, tasks_of, TasksShow}
use Rattle.head.specs.declared.Head.{Head}
use Rattle.head.specs.View.{plain_of, Shaped, Shows}
use Rattle.head.proofs.Shown.{head_with, head-shaped, both_shaped}
use Rattle.rousing.specs.declared.Change.TheVariants.{Wake}
use Rattle.rousing.specs.Parts.{request_in, owner_changed}
use Rattle.rousing.proofs.Rules.{one_changed}

-- ---- over the rules
swapped : {A : Type 0} (b : Bool) (x y : A) → cond b x y ≡ cond (not b) y x
swapped true x y = refl
swapped false x y = refl

-- the task of a request woken, unless it is finished
pub wakes_one : (x : Slot) (s : Plain) → wake_unfinished x s ≡ with_tasks (owner_changed Wake (request_at x s) s.tasks) s
wakes_one x s = swapped (owner_finished x s) s (unblock_and_wake (task_of x s) s) ∙ one_changed Wake x s

-- a slot at the front leaves the queue, and its task is woken
empties_front : (x : Slot) (q : List Slot) (s : Plain) → (let a = alter_request x (queued_as false) s in
    empty_queue (x ∷ q) (with_queue (x ∷ q) s) ≡ empty_queue q (with_queue q (with_tasks (owner_changed Wake (request_at x a) a.tasks) a)))
unfolding empty_queue without
empties_front x q s =
    let a = alter_request x (queued_as false) s in
    ap (empty_queue q) (rw (same_itself x) (wakes_one x (with_queue q a)))

-- ---- on the words
pub record Emptying (h : Head) (ss₀ ts₀ : List ℕ) (q : List Slot) (ss ts : List ℕ) (i : ℕ) : Type 0 where
  pub shaped : Shaped h ss ts
  pub whole : q ≡ waiters_of h.waiters
  pub rest : (let r = drop i q in empty_queue r (with_queue r (plain_of h ss ts)) ≡ empty_queue q (plain_of h ss₀ ts₀))

module _ (h : Head) (ss₀ ts₀ : List ℕ) (q : List Slot) where
  pub emptying : Shaped h ss₀ ts₀ → q ≡ waiters_of h.waiters → Emptying h ss₀ ts₀ q ss₀ ts₀ 0
  emptying s e = record { shaped = s; whole = e; rest = ap (λ (r : List Slot). empty_queue q (with_queue r (plain_of h ss₀ ts₀))) e }

  module _ (ss ts : List ℕ) (i : ℕ) (e : Emptying h ss₀ ts₀ q ss ts i) where
    module _ (d : Slot) (l : i < length q) (ss' ts' : List ℕ) (ks : length ss' ≡ length ss) (kt : length ts' ≡ length ts)
        (ms : SlotsShow ss' ss (altered (get_or q i d) (queued_as false) (slots_of ss)))
        (mt : TasksShow h.tasks ts' ts (owner_changed Wake (request_in (slots_of ss') (get_or q i d)) (tasks_of h.tasks ts))) where
      abbrev x : Slot
      x = get_or q i d

      now : (r : List Slot) → with_queue r (with_tasks (owner_changed Wake (request_in (altered x (queued_as false) (slots_of ss)) x) (tasks_of h.tasks ts)) (alter_request x (queued_as false) (plain_of h ss ts))) ≡ with_queue r (plain_of h ss' ts')
      now r =
          ap (λ (us : List (Option Request)). with_queue r (with_tasks (owner_changed Wake (request_in us x) (tasks_of h.tasks ts)) (with_slots us (plain_of h ss ts)))) (sym ms.view)
          ∙ ap (λ (vs : List Task). with_queue r (with_tasks vs (with_slots (slots_of ss') (plain_of h ss ts)))) (sym mt.view)

      turned : empty_queue (drop i q) (with_queue (drop i q) (plain_of h ss ts)) ≡ empty_queue (drop (suc i) q) (with_queue (drop (suc i) q) (plain_of h ss' ts'))
      turned =
          ap (λ (r : List Slot). empty_queue r (with_queue r (plain_of h ss ts))) (drop-cons q i d l)
          ∙ empties_front x (drop (suc i) q) (plain_of h ss ts)
          ∙ ap (empty_queue (drop (suc i) q)) (now (drop (suc i) q))

      pub emptying_on : Emptying h ss₀ ts₀ q ss' ts' (i + 1)
      emptying_on =
          record {
            shaped = both_shaped h ss ts ss' ts' e.shaped _ _ ms ks mt kt;
            whole = e.whole;
            rest = rw add-one (sym turned ∙ e.rest);
          }

    pub emptied : length q ≤ i → (w : Waiters) → Holds w []
        → Shows (head_with h.stock w h.reservation h) ss ts (empty_queue (waiters_of h.waiters) (plain_of h ss₀ ts₀))
    unfolding empty_queue
    emptied l w k =
        let o : drop i q ≡ [] = drop_of_length-le q {i = i} l in
        record {
          shaped = head-shaped h ss ts e.shaped h.stock w h.reservation k.fits;
          view =
              ap (λ (r : List Slot). with_queue r (plain_of h ss ts)) k.view
              ∙ sym (ap (λ (r : List Slot). empty_queue r (with_queue r (plain_of h ss ts))) o)
              ∙ e.rest
              ∙ ap (λ (r : List Slot). empty_queue r (plain_of h ss₀ ts₀)) e.whole;
        }
