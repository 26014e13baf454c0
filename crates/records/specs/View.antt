-- What a task's record and a request's stand for, without clocks; and what a step does to a request's marks.
use Rattle.std.specs.Prelude.{◌≡◌, true, false, cond, Option, None, Some, unwrap_or}
use Rattle.splitting.specs.Plain.{Task as TaskRule, Request as RequestRule, no_request, queued_as, held, polled_granted, polled_closed, polled_pending}
use Rattle.records.specs.declared.Task.{Task}
use Rattle.records.specs.declared.Request.{Request}
use Rattle.records.specs.declared.Marking.{Marking}
use Rattle.records.specs.declared.Marking.TheVariants.{Joins, Leaves, IsGranted, PollsGranted, PollsClosed, PollsPending}

abbrev pub task_seen : Task → TaskRule
task_seen a = record { state = a.state; woken = a.woken }

abbrev pub request_of : Request → RequestRule
request_of r = record { ask = r.ask; task = record { 0 = r.task }; queued = r.queued; holding = r.holding; completed = r.completed; polled = r.polled }

-- a place that is not in use is free
abbrev pub seen : Request → Option RequestRule
seen r = cond r.used (Some (request_of r)) None

-- what is read at a slot: its request, or where none stands the one of no permits
pub record Stands (r : Request) (o : Option RequestRule) : Type 0 where
  pub used : seen r ≡ o
  pub view : request_of r ≡ unwrap_or o no_request

-- a request that is changed, in use as before
pub record Changed (f : RequestRule → RequestRule) (r q : Request) : Type 0 where
  pub used : q.used ≡ r.used
  pub view : request_of q ≡ f (request_of r)

-- what a step does to a request's marks
abbrev pub marking : Marking → RequestRule → RequestRule
marking Joins r = queued_as true r
marking Leaves r = queued_as false r
marking IsGranted r = held (queued_as false r)
marking PollsGranted r = polled_granted r
marking PollsClosed r = polled_closed r
marking (PollsPending t) r = polled_pending t r
