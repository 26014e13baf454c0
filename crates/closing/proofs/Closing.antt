-- The reservation dropped, and the whole.
use Rattle.std.specs.Prelude.{Option, None, Some}
use Prim.Native.Nat.{ℕ}
use mathlib.Core.Path.{◌≡◌, refl, sym, ap, ◌∙◌}
use mathlib.Core.Bool.{Bool, true, false, cond}
use mathlib.Core.List.{List, [], ◌∷◌}
use lib.ListN.{length}
use Rattle.rules.specs.declared.Slot.{Slot}
use Rattle.splitting.specs.Plain.{Plain, close, owner_finished, task_of, unblock_and_wake, with_reservation}
use Rattle.splitting.specs.Who.{leave, wake_unfinished, empty_queue, drop_reservation, closing}
use Rattle.queue.specs.View.{waiters_of}
use Rattle.words.specs.View.{slots_of, tasks_of, TasksShow}
use Rattle.head.specs.declared.Head.{Head}
use Rattle.head.specs.View.{plain_of, Shaped, Shows}
use Rattle.head.proofs.Shown.{shown, reserved_as, unreserved_shown}
use Rattle.rousing.specs.declared.Change.TheVariants.{Wake}
use Rattle.rousing.specs.Parts.{request_in, owner_changed}
use Rattle.closing.proofs.Emptying.{wakes_one}

-- emptying the queue keeps the reservation
woken_keeps : (b : Bool) (a c : Plain) (o : Option Slot) → a.reservation ≡ o → c.reservation ≡ o → (cond b a c).reservation ≡ o
woken_keeps true a c o e f = e
woken_keeps false a c o e f = f

keeps : (q : List Slot) (s : Plain) → (empty_queue q s).reservation ≡ s.reservation
unfolding empty_queue
keeps [] s = refl
keeps (x ∷ q) s =
    let a = leave x s in
    keeps q (wake_unfinished x a) ∙ woken_keeps (owner_finished x a) a (unblock_and_wake (task_of x a) a) s.reservation refl refl

module _ (h : Head) (ss ts : List ℕ) (s : Shaped h ss ts) where
  abbrev p : Plain
  p = plain_of h ss ts

  pub none_made : h.reservation ≡ None → Shows h ss ts (drop_reservation h.reservation p)
  none_made e = record { shaped = s; view = ap (λ (o : Option Slot). drop_reservation o p) (sym e) }

  pub dropped : (x : Slot) → h.reservation ≡ Some x → (after : List ℕ) → length after ≡ length ts
      → TasksShow h.tasks after ts (owner_changed Wake (request_in (slots_of ss) x) (tasks_of h.tasks ts))
      → Shows (reserved_as None h) ss after (drop_reservation h.reservation p)
  dropped x e after l k =
      shown (reserved_as None h) ss after _ _ (unreserved_shown h ss ts s after _ k l)
      (sym (wakes_one x (with_reservation None p)) ∙ ap (λ (o : Option Slot). drop_reservation o p) (sym e))

  -- Nothing, if it was closed before.
  pub closed-before : h.closed ≡ true → Shows h ss ts (closing p)
  unfolding closing
  closed-before e = record { shaped = s; view = rw e }

pub closes : (h : Head) (ss ts : List ℕ) → h.closed ≡ false → (e : Head) (ss' ts' : List ℕ) → Shows e ss' ts' (empty_queue (waiters_of h.waiters) (close (plain_of h ss ts)))
    → (r : Head) (after : List ℕ) → Shows r ss' after (drop_reservation e.reservation (plain_of e ss' ts')) → Shows r ss' after (closing (plain_of h ss ts))
unfolding closing
closes h ss ts o e ss' ts' k r after d =
    let q = waiters_of h.waiters in
    let s = close (plain_of h ss ts) in
    shown r ss' after _ _ d
    (ap (λ (a : Plain). drop_reservation a.reservation a) k.view
    ∙ ap (λ (v : Option Slot). drop_reservation v (empty_queue q s)) (keeps q s)
    ∙ rw o)
