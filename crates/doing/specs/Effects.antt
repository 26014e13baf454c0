-- What is said of an effect, and what it asks.
use Rattle.std.specs.Prelude.{ℕ, ◌+◌, ◌≤◌, ◌<◌, ◌≡◌, Bool, true, false, List, [], ◌∷◌, length}
use Rattle.rules.specs.declared.TaskId.{TaskId}
use Rattle.rules.specs.declared.Slot.{Slot}
use Rattle.rules.specs.declared.Taker.TheVariants.{BySlot}
use Rattle.rules.specs.declared.Direct.TheVariants.{Take}
use Rattle.rules.specs.declared.Polling.{Polling}
use Rattle.rules.specs.declared.Polling.TheVariants.{Holds, IsClosed, Stays, QueuesBack, QueuesFront, TakesReserved, Takes, Reserves}
use Rattle.rules.specs.declared.Dropping.{Dropping}
use Rattle.rules.specs.Sizes.{slot_count, largest}
use Rattle.rules.specs.Broken.{twice}
use Rattle.rules.specs.Polling.{takes_in}
use Rattle.rules.specs.Steps.Answer.{granted}
use Rattle.rules.specs.Refusals.{returned}
use Rattle.splitting.specs.Plain.{Plain, polled_granted, asked_at, alter_request}
use Rattle.splitting.specs.Who.{Outcome}
use Rattle.splitting.specs.Who as W
use Rattle.head.specs.declared.Head.{Head}
use Rattle.head.specs.declared.Granting.{Granting}
use Rattle.head.specs.declared.Answered.{Answered}
use Rattle.head.specs.View.{plain_of, Shaped, Grants, Answers}
use Rattle.choosing.specs.declared.Choice.{Choice}
use Rattle.choosing.specs.declared.Choice.TheVariants.{Makes, Polls, Tries, Releases, Drops, Closes, Sleeps, Finishes}

-- on the slots: whatever the tasks and the grants' words
abbrev pub SlotsAnswer : (Plain → Outcome) → Answered → List ℕ → Head → List ℕ → Type 0
SlotsAnswer f r after h before = (tasks grants : List ℕ) → Shaped h before tasks → Answers r after tasks grants (f (plain_of h before tasks))

-- no grants made: whatever stands in their words
abbrev pub AnyGrants : Answered → List ℕ → List ℕ → Outcome → Type 0
AnyGrants r slots tasks o = (grants : List ℕ) → Answers r slots tasks grants o

abbrev pub Ungranted : Granting → List ℕ → List ℕ → Plain → Type 0
Ungranted r slots tasks s = (grants : List ℕ) → Grants r slots tasks grants (W.ungranted s)

-- the marks and the one grant of a poll that takes: whatever the tasks
abbrev pub poll_takes : TaskId → Slot → ℕ → Plain → Outcome
poll_takes t x n s = record { answer = granted; grants = record { taker = BySlot x; count = n; task = t } ∷ []; state = alter_request x polled_granted s }

abbrev pub GrantsPoll : Answered → List ℕ → List ℕ → TaskId → Slot → ℕ → Head → List ℕ → Type 0
GrantsPoll r after grants t x n h before = (tasks : List ℕ) → Shaped h before tasks → Answers r after tasks grants (poll_takes t x n (plain_of h before tasks))

-- what a release asks: the sum fits, unless it is of nothing
abbrev pub MayRelease : ℕ → Plain → Type 0
MayRelease n s = 0 < n → s.stock + n ≤ largest

-- whether a poll's request joins the queue
abbrev pub queues_in : Polling → Bool
queues_in Holds = false
queues_in IsClosed = false
queues_in Stays = false
queues_in QueuesBack = true
queues_in QueuesFront = true
queues_in TakesReserved = false
queues_in Takes = false
queues_in Reserves = false

-- what a poll's decision asks, with n for what the request asks for: to take, permits enough; to queue, a place
pub record MayPoll (q : Polling) (n : ℕ) (x : Slot) (s : Plain) : Type 0 where
  pub count : n ≡ asked_at x s
  pub enough : takes_in q ≡ true → n ≤ s.stock
  pub place : queues_in q ≡ true → length s.queue < slot_count

-- what a drop's decision asks, with n for what is given back
pub record MayDrop (d : Dropping) (n : ℕ) (x : Slot) (s : Plain) : Type 0 where
  pub count : n ≡ returned d (asked_at x s)
  pub fits : MayRelease n s

-- what a choice asks of the state, where it moves something
abbrev pub Asks : Choice → Plain → Type 0
Asks (Makes i a) s = Unit {0}
Asks (Polls x n q) s = MayPoll q n x s
Asks (Tries n d) s = d ≡ Take → n ≤ s.stock
Asks (Releases n) s = MayRelease n s
Asks (Drops x n d) s = MayDrop d n x s
Asks Closes s = Unit {0}
Asks Sleeps s = Unit {0}
Asks Finishes s = Unit {0}

-- and that the queue, where it is scanned, names no slot twice
pub record Able (c : Choice) (s : Plain) : Type 0 where
  pub once : twice s.queue ≡ false
  pub asks : Asks c s
