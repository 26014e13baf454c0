-- A head with the words of its tasks changed shows what the rules say.
use Rattle.std.specs.Prelude.{Option, None, Some, is_some}
use Prim.Native.Nat.{ℕ}
use mathlib.Core.Path.{◌≡◌, sym, ap, ◌∙◌}
use mathlib.Core.Bool.{Bool, true, false}
use mathlib.Core.List.{List}
use lib.ListN.{length, get_or}
use Rattle.rules.specs.declared.TaskId.{TaskId}
use Rattle.rules.specs.declared.Slot.{Slot}
use Rattle.rules.specs.Task.{is_finished}
use Rattle.rules.specs.State.{is_strict}
use Rattle.splitting.specs.Plain.{Plain, Request, no_task, owner_finished, with_tasks, with_reservation}
use Rattle.splitting.specs.Who.{wake_unfair, reblock}
use Rattle.queue.specs.View.{waiters_of}
use Rattle.records.specs.declared.Request.{Request as RequestRead}
use Rattle.records.specs.View.{request_of, Stands}
use Rattle.words.specs.View.{slots_of, tasks_of, TasksShow}
use Rattle.head.specs.declared.Head.{Head}
use Rattle.head.specs.View.{plain_of, Shaped, Shows}
use Rattle.head.proofs.Shown.{shown, reserved_as, tasks_shown, unreserved_shown}
use Rattle.rousing.specs.declared.Change.TheVariants.{WakeIfEnough, Reblock}
use Rattle.rousing.specs.Parts.{for_each, woken_if_asked}
use Rattle.rousing.proofs.Rules.{wakes_queue, wakes_past, wakes_holder, reblocks_none, reblocks_queue}

module _ (h : Head) (ss ts : List ℕ) (s : Shaped h ss ts) where
  abbrev p : Plain
  p = plain_of h ss ts

  -- Waking the unfair.

  pub shows_cancelled : (after : List ℕ) → length after ≡ length ts
      → TasksShow h.tasks after ts (for_each (WakeIfEnough h.stock) (slots_of ss) (waiters_of h.waiters) (tasks_of h.tasks ts))
      → Shows (reserved_as None h) ss after (wake_unfair (with_reservation None p))
  shows_cancelled after e k = shown (reserved_as None h) ss after _ _ (unreserved_shown h ss ts s after _ k e) (sym (wakes_queue p))

  pub shows_unreserved : h.reservation ≡ None → (r : Head) (after : List ℕ) → Shows r ss after (wake_unfair (with_reservation None p)) → Shows r ss after (wake_unfair p)
  shows_unreserved e r after k = shown r ss after _ _ k (ap (λ (o : Option Slot). wake_unfair (with_reservation o p)) (sym e))

  module _ (x : Slot) (made : h.reservation ≡ Some x) (r : RequestRead) (st : Stands r (get_or (slots_of ss) x.0 None))
      (f : Bool) (ef : f ≡ is_finished (get_or (tasks_of h.tasks ts) r.task no_task).state) where
    ended : owner_finished x p ≡ f
    ended = ap (λ (z : Request). is_finished (get_or (tasks_of h.tasks ts) z.task.0 no_task).state) (sym st.view) ∙ sym ef

    pub shows_past : f ≡ true → (q : Head) (after : List ℕ) → Shows q ss after (wake_unfair (with_reservation None p)) → Shows q ss after (wake_unfair p)
    shows_past e q after k = shown q ss after _ _ k (sym (wakes_past x p made (ended ∙ e)))

    pub shows-held : f ≡ false → (after : List ℕ) → length after ≡ length ts
        → TasksShow h.tasks after ts (woken_if_asked h.stock (request_of r) (tasks_of h.tasks ts)) → Shows h ss after (wake_unfair p)
    shows-held e after l k =
        shown h ss after _ _ (tasks_shown h ss ts s after _ k l)
        (ap (λ (z : Request). with_tasks (woken_if_asked h.stock z (tasks_of h.tasks ts)) p) st.view
        ∙ sym (wakes_holder x p made (ended ∙ e)))

  -- Reblocking.

  pub shows_fair : (me : TaskId) (b : Bool) → b ≡ is_strict h.fairness → b ≡ true → Shows h ss ts (reblock me p)
  shows_fair me b e f = record { shaped = s; view = sym (reblocks_none me p (sym e ∙ f)) }

  pub shows_reblocked : (me : TaskId) (b v : Bool) → b ≡ is_strict h.fairness → b ≡ false → v ≡ is_some h.reservation → (after : List ℕ) → length after ≡ length ts
      → TasksShow h.tasks after ts (for_each (Reblock v h.stock me) (slots_of ss) (waiters_of h.waiters) (tasks_of h.tasks ts))
      → Shows h ss after (reblock me p)
  shows_reblocked me b v e f m after l k =
      shown h ss after _ _ (tasks_shown h ss ts s after _ k l)
      (ap (λ (v : Bool). with_tasks (for_each (Reblock v h.stock me) (slots_of ss) (waiters_of h.waiters) (tasks_of h.tasks ts)) p) m
      ∙ sym (reblocks_queue me p (sym e ∙ f)))
