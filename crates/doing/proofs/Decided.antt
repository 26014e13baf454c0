-- In an arm of a match, the decision is the arm's: a poll by each that moves something; and a try that takes.
use Rattle.std.specs.Prelude.{None, Some}
use Prim.Native.Nat.{ℕ, ◌≤◌, ◌<◌}
use native.Mathlib.Omega.{arith}
use mathlib.Core.Path.{◌≡◌, refl, sym, ap, subst, ◌∙◌}
use mathlib.Core.Bool.{true, false, cond}
use mathlib.Core.List.{List, [], ◌∷◌}
use lib.ListN.{length}
use Rattle.rules.specs.declared.TaskId.{TaskId}
use Rattle.rules.specs.declared.Slot.{Slot}
use Rattle.rules.specs.declared.Taker.TheVariants.{ByTry}
use Rattle.rules.specs.declared.Direct.TheVariants.{Take}
use Rattle.rules.specs.declared.Polling.{Polling}
use Rattle.rules.specs.declared.Polling.TheVariants.{QueuesBack, QueuesFront, TakesReserved, Takes, Reserves}
use Rattle.rules.specs.Sizes.{slot_count}
use Rattle.rules.specs.Polling.{takes_in}
use Rattle.rules.specs.Steps.Answer.{pending}
use Rattle.splitting.specs.Plain.{with_reservation, alter_request, polled_pending, ◌▷◌}
use Rattle.splitting.specs.Who.{taking, queue_back, queue_front, leave, wake_unfair, reblock, poll_work, quiet, try_by}
use Rattle.replies.specs.declared.Reply.TheVariants.{Granted}
use Rattle.words.specs.View.{grants_of}
use Rattle.head.specs.declared.Head.{Head}
use Rattle.head.specs.declared.Answered.{Answered}
use Rattle.head.specs.View.{plain_of, Shaped, Shows, Answers}
use Rattle.choosing.specs.Choice.{poll_by}
use Rattle.doing.specs.Effects.{SlotsAnswer, AnyGrants, poll_takes, queues_in, MayPoll}

-- ---- a poll
module _ (q : Polling) (n : ℕ) (t : TaskId) (x : Slot) (h : Head) (ss ts : List ℕ) (s : Shaped h ss ts) (m : MayPoll q n x (plain_of h ss ts)) where
  -- what it asks
  pub poll-place : (k : Polling) → q ≡ k → queues_in k ≡ true → length (plain_of h ss ts).queue < slot_count
  poll-place k e f = m.place (ap queues_in e ∙ f)

  pub poll-enough : (k : Polling) → q ≡ k → takes_in k ≡ true → n ≤ h.stock
  poll-enough k e f = m.enough (ap takes_in e ∙ f)

  module _ (r : Answered) (after awake gs : List ℕ) where
    abbrev Does : Polling → Type 0
    Does k = Answers r after awake gs (poll_by k t x (plain_of h ss ts))

    by : (k : Polling) → q ≡ k → Does k → Does q
    by k e d = subst Does (sym e) d

  module _ (r : Answered) (after gs : List ℕ) where
    pub polls_back : q ≡ QueuesBack → SlotsAnswer (λ s. quiet pending (alter_request x (polled_pending t) (cond false (queue_front x s) (queue_back x s)))) r after h ss → Does r after ts gs q
    unfolding poll_work
    polls_back e a = by r after ts gs QueuesBack e (a ts gs s)

    pub polls_front : q ≡ QueuesFront → SlotsAnswer (λ s. quiet pending (alter_request x (polled_pending t) (cond true (queue_front x s) (queue_back x s)))) r after h ss → Does r after ts gs q
    unfolding poll_work
    polls_front e a = by r after ts gs QueuesFront e (a ts gs s)

  module _ (r : Answered) (after awake gs : List ℕ) where
    pub polls_reserved : q ≡ TakesReserved
        → Answers r after awake gs (poll_takes t x n (plain_of h ss ts ▷ with_reservation None ▷ taking n ▷ wake_unfair)) → Does r after awake gs q
    unfolding poll_work
    polls_reserved e a =
        by r after awake gs TakesReserved e
        (subst (λ (k : ℕ). Answers r after awake gs (poll_takes t x k (plain_of h ss ts ▷ with_reservation None ▷ taking k ▷ wake_unfair))) m.count a)

    pub polls_taking : q ≡ Takes
        → Answers r after awake gs (poll_takes t x n (plain_of h ss ts ▷ taking n ▷ leave x ▷ reblock t)) → Does r after awake gs q
    unfolding poll_work
    polls_taking e a =
        by r after awake gs Takes e
        (subst (λ (k : ℕ). Answers r after awake gs (poll_takes t x k (plain_of h ss ts ▷ taking k ▷ leave x ▷ reblock t))) m.count a)

    pub polls_reserving : q ≡ Reserves
        → AnyGrants r after awake (quiet pending (alter_request x (polled_pending t) (plain_of h ss ts ▷ leave x ▷ with_reservation (Some x) ▷ reblock t))) → Does r after awake gs q
    unfolding poll_work
    polls_reserving e a = by r after awake gs Reserves e (a gs)

-- ---- a try that takes
pub tries_taking : (h b : Head) (ss ts awake gs : List ℕ) (t : TaskId) (n : ℕ) → Shows b ss awake (reblock t (plain_of h ss ts ▷ taking n))
    → grants_of 1 gs ≡ record { taker = ByTry; count = n; task = record { 0 = t.0 } } ∷ []
    → Answers (record { reply = Granted; count = 1; head = b }) ss awake gs (try_by Take t n (plain_of h ss ts))
unfolding try_by
tries_taking h b ss ts awake gs t n k g = record { state = k; answer = refl; grants = g; few = omega arith }
