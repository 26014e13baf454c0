-- Document 01, "State": a request.
use Rattle.std.specs.Prelude.{ℕ, Bool, true, false}
use Rattle.rules.specs.declared.TaskId.{TaskId}
use Rattle.rules.specs.declared.Ask.{Ask}
use Rattle.rules.specs.declared.Priority.{Priority}
use Rattle.rules.specs.declared.Priority.TheVariants.{Back, Bypassable, Front}
use Rattle.rules.specs.Sizes.{width}
use Rattle.rules.specs.Clock.{Clock, empty}

-- permits asked, least permits, kind, reserving or not (`ask`); clock of its maker when made; its task (the maker until a Pending
-- poll); queued, holding, completed, polled before
pub record Request : Type 0 where
  pub ask : Ask
  pub clock : Clock
  pub task : TaskId
  pub queued : Bool
  pub holding : Bool
  pub completed : Bool
  pub polled : Bool

abbrev pub is_bypassable : Priority → Bool
is_bypassable Back = false
is_bypassable Bypassable = true
is_bypassable Front = false

abbrev pub is_front : Priority → Bool
is_front Back = false
is_front Bypassable = false
is_front Front = true

-- least permits: those asked, unless reserving
abbrev pub plain_ask : Priority → ℕ → Ask
plain_ask k n = record { asked = n; least = n; kind = k; reserving = false }

-- reserving ones Back with their own least
abbrev pub reserving_ask : ℕ → ℕ → Ask
reserving_ask least n = record { asked = n; least = least; kind = Back; reserving = true }

-- an unpolled request
abbrev pub unpolled : Ask → TaskId → Clock → Request
unpolled a t c = record { ask = a; clock = c; task = t; queued = false; holding = false; completed = false; polled = false }

-- what stands where no request does
abbrev pub no_request : Request
no_request = unpolled (plain_ask Back 0) (record { 0 = 0 }) (empty width)

abbrev pub queued_as : Bool → Request → Request
queued_as b r = record { ask = r.ask; clock = r.clock; task = r.task; queued = b; holding = r.holding; completed = r.completed; polled = r.polled }

abbrev pub held : Request → Request
held r = record { ask = r.ask; clock = r.clock; task = r.task; queued = r.queued; holding = true; completed = r.completed; polled = r.polled }

-- each poll marks the request polled; Granted also holding and completed
abbrev pub polled_granted : Request → Request
polled_granted r = record { ask = r.ask; clock = r.clock; task = r.task; queued = r.queued; holding = true; completed = true; polled = true }

-- Closed completed
abbrev pub polled_closed : Request → Request
polled_closed r = record { ask = r.ask; clock = r.clock; task = r.task; queued = r.queued; holding = r.holding; completed = true; polled = true }

-- Pending records the actor as its task
abbrev pub polled_pending : TaskId → Request → Request
polled_pending t r = record { ask = r.ask; clock = r.clock; task = t; queued = r.queued; holding = r.holding; completed = r.completed; polled = true }
