-- A poll put together from its parts.
use Rattle.std.specs.Prelude.{Option, None, Some}
use Prim.Native.Nat.{ℕ, ◌+◌, ◌-◌}
use native.Mathlib.Omega.{arith}
use mathlib.Core.Path.{◌≡◌, refl, ap, subst, ◌∙◌}
use mathlib.Core.Bool.{Bool, cond}
use mathlib.Core.List.{List, [], ◌∷◌, ◌++◌}
use lib.ListN.{length}
use Rattle.rules.specs.declared.TaskId.{TaskId}
use Rattle.rules.specs.declared.Slot.{Slot}
use Rattle.rules.specs.declared.Taker.TheVariants.{BySlot}
use Rattle.rules.specs.declared.Grant.{Grant}
use Rattle.rules.specs.Steps.Answer.{pending}
use Rattle.splitting.specs.Plain.{Plain, with_reservation, alter_request, polled_pending, ◌▷◌}
use Rattle.splitting.specs.Who.{taking, queue_back, queue_front, leave, wake_unfair, reblock, quiet}
use Rattle.replies.specs.declared.Reply.{Reply}
use Rattle.replies.specs.declared.Reply.TheVariants.{Granted}
use Rattle.replies.specs.Answers.{answer_of}
use Rattle.records.specs.declared.Marking.{Marking}
use Rattle.records.specs.declared.Marking.TheVariants.{PollsGranted}
use Rattle.records.specs.View.{marking}
use Rattle.words.specs.View.{slots_of, altered, grants_of, SlotsShow}
use Rattle.words.proofs.Grants.{no_grants}
use Rattle.head.specs.declared.Head.{Head}
use Rattle.head.specs.declared.Answered.{Answered}
use Rattle.head.specs.View.{plain_of, Shaped, Shows, Answers}
use Rattle.head.proofs.Shown.{head_with, reserved_as, head-shaped, slots_shown}
use Rattle.scanning.specs.View.{AnyTasks}
use Rattle.doing.specs.Effects.{SlotsAnswer, AnyGrants, poll_takes, GrantsPoll}
use Rattle.doing.proofs.Quiet.{quieted}

pub marked_so : (h : Head) (slots after : List ℕ) (x : Slot) (m : Marking) (y : Reply) → SlotsShow after slots (altered x (marking m) (slots_of slots)) → length after ≡ length slots
    → SlotsAnswer (λ s. quiet (answer_of y) (alter_request x (marking m) s)) (record { reply = y; count = 0; head = h }) after h slots
marked_so h slots after x m y k n tasks grants s = quieted h after tasks grants y _ (slots_shown h slots tasks s after (altered x (marking m) (slots_of slots)) k n)

-- after the queue, the mark
pub waits_so : (h b : Head) (slots joined after : List ℕ) (x : Slot) (t : TaskId) (front : Bool) (r : Answered) → AnyTasks (λ s. cond front (queue_front x s) (queue_back x s)) b joined h slots
    → SlotsAnswer (λ s. quiet pending (alter_request x (polled_pending t) s)) r after b joined
    → SlotsAnswer (λ s. quiet pending (alter_request x (polled_pending t) (cond front (queue_front x s) (queue_back x s)))) r after h slots
waits_so h b slots joined after x t front r j a tasks grants s =
    let k = j tasks s in
    subst (λ (p : Plain). Answers r after tasks grants (quiet pending (alter_request x (polled_pending t) p))) k.view (a tasks grants k.shaped)

pub takes_so : (h : Head) (slots after before grants : List ℕ) (t : TaskId) (x : Slot) (n : ℕ) → SlotsShow after slots (altered x (marking PollsGranted) (slots_of slots)) → length after ≡ length slots
    → grants_of (0 + 1) grants ≡ grants_of 0 before ++ record { taker = BySlot x; count = n; task = record { 0 = t.0 } } ∷ []
    → GrantsPoll (record { reply = Granted; count = 1; head = h }) after grants t x n h slots
takes_so h slots after before grants t x n k l g tasks s =
    record {
      state = slots_shown h slots tasks s after (altered x (marking PollsGranted) (slots_of slots)) k l;
      answer = refl;
      grants = g ∙ ap (λ (gs : List Grant). gs ++ record { taker = BySlot x; count = n; task = t } ∷ []) (no_grants before);
      few = omega arith;
    }

-- another stock or reservation, and the same queue
pub other_shaped : (h : Head) (ss ts : List ℕ) (n : ℕ) (v : Option Slot) → Shaped h ss ts → Shaped (head_with n h.waiters v h) ss ts
other_shaped h ss ts n v s = head-shaped h ss ts s n h.waiters v s.waiters

-- ---- taking, and reserving
module _ (t : TaskId) (x : Slot) (n : ℕ) where
  -- the marks and the grant, after what comes first
  pub then_granted : (b : Head) (ss ts after gs : List ℕ) (a : Plain) (r : Answered) → Shows b ss ts a → GrantsPoll r after gs t x n b ss → Answers r after ts gs (poll_takes t x n a)
  then_granted b ss ts after gs a r k g = subst (λ (p : Plain). Answers r after ts gs (poll_takes t x n p)) k.view (g ts k.shaped)

  pub reserved_taken : (h b : Head) (ss ts awake after gs : List ℕ) (r : Answered)
      → Shows b ss awake (wake_unfair (plain_of (head_with (h.stock - n) h.waiters None h) ss ts)) → GrantsPoll r after gs t x n b ss
      → Answers r after awake gs (poll_takes t x n (plain_of h ss ts ▷ with_reservation None ▷ taking n ▷ wake_unfair))
  reserved_taken h b ss ts awake after gs r k g = then_granted b ss awake after gs _ r k g

  pub taken_left : (h l : Head) (ss ts left awake after gs : List ℕ) (r : Answered) → Shaped h ss ts
      → AnyTasks (leave x) l left (head_with (h.stock - n) h.waiters h.reservation h) ss
      → Shows l left awake (reblock t (plain_of l left ts)) → GrantsPoll r after gs t x n l left
      → Answers r after awake gs (poll_takes t x n (plain_of h ss ts ▷ taking n ▷ leave x ▷ reblock t))
  taken_left h l ss ts left awake after gs r s k w g =
      let v = k ts (other_shaped h ss ts (h.stock - n) h.reservation s) in
      then_granted l left awake after gs _ r (record { shaped = w.shaped; view = w.view ∙ ap (λ (p : Plain). reblock t p) v.view }) g

-- what is left stands in its shape
pub left_there : (h l : Head) (x : Slot) (ss ts left : List ℕ) → Shaped h ss ts → AnyTasks (leave x) l left h ss → Shaped l left ts
left_there h l x ss ts left s k = (k ts s).shaped

pub reserves_so : (t : TaskId) (x : Slot) (h l : Head) (ss ts left awake after : List ℕ) (r : Answered) → Shaped h ss ts → AnyTasks (leave x) l left h ss
    → Shows (reserved_as (Some x) l) left awake (reblock t (plain_of (reserved_as (Some x) l) left ts))
    → SlotsAnswer (λ s. quiet pending (alter_request x (polled_pending t) s)) r after (reserved_as (Some x) l) left
    → AnyGrants r after awake (quiet pending (alter_request x (polled_pending t) (plain_of h ss ts ▷ leave x ▷ with_reservation (Some x) ▷ reblock t)))
reserves_so t x h l ss ts left awake after r s k w a gs =
    let state = w.view ∙ ap (λ (p : Plain). reblock t (with_reservation (Some x) p)) (k ts s).view in
    subst (λ (p : Plain). Answers r after awake gs (quiet pending (alter_request x (polled_pending t) p))) state (a awake gs w.shaped)
