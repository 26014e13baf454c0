-- What a step comes to, and its effect by that: the rules of a step in two parts.
use Rattle.std.specs.Prelude.{ℕ, ◌-◌, Bool, true, false, not, ◌||◌, List, get_or, set, Option, None, Some, unwrap_or}
use Rattle.std.specs.List.{list_all}
use Rattle.rules.specs.declared.TaskId.{TaskId}
use Rattle.rules.specs.declared.Slot.{Slot}
use Rattle.rules.specs.declared.Ask.{Ask}
use Rattle.rules.specs.declared.Priority.{Priority}
use Rattle.rules.specs.declared.Priority.TheVariants.{Back, Bypassable, Front}
use Rattle.rules.specs.declared.Direct.{Direct}
use Rattle.rules.specs.declared.Direct.TheVariants.{Shut, NoPermits, Take}
use Rattle.rules.specs.declared.Polling.{Polling}
use Rattle.rules.specs.declared.Polling.TheVariants.{Holds, IsClosed, Stays, QueuesBack, QueuesFront, TakesReserved, Takes, Reserves}
use Rattle.rules.specs.declared.Dropping.{Dropping}
use Rattle.rules.specs.declared.Dropping.TheVariants.{Leaving, Unreserving, Returning, Nothing}
use Rattle.rules.specs.declared.Act.{Act}
use Rattle.rules.specs.declared.Act.TheVariants.{Acquire, AcquireBypassable, AcquireReserving, Upgrade, Poll, Try, TryUpgrade, Release, Drop, Close, Sleep, Finish}
use Rattle.rules.specs.Request.{plain_ask, reserving_ask, is_bypassable, is_front}
use Rattle.rules.specs.Polling.{polled}
use Rattle.rules.specs.Steps.{upgrade_ask, poll_answer}
use Rattle.rules.specs.Steps.Answer.{done, made}
use Rattle.splitting.specs.Plain.{Plain, Request, no_request, unpolled, strict, asked_at, with_slots, alter_task, alter_request, slept, finished, ◌▷◌}
use Rattle.splitting.specs.Who as W
use Rattle.choosing.specs.declared.Choice.{Choice}
use Rattle.choosing.specs.declared.Choice.TheVariants.{Makes, Polls, Tries, Releases, Drops, Closes, Sleeps, Finishes}

-- every queued request is Bypassable, of the slots alone
abbrev pub every_bypassable : List Slot → List (Option Request) → Bool
every_bypassable q rs = list_all (λ x. is_bypassable (unwrap_or (get_or rs x.0 None) no_request).ask.kind) q

-- who may pass those queued
abbrev pub passes : Bool → Priority → List Slot → List (Option Request) → Bool
passes strictly k q rs = every_bypassable q rs || not strictly || is_front k

-- what a step comes to: a request is made in the lowest free slot, an upgrade asks for the difference
unfoldable pub choice_of : Act → Plain → Choice
choice_of (Acquire n) p = Makes (W.lowest_free p.slots) (plain_ask Back n)
choice_of (AcquireBypassable n) p = Makes (W.lowest_free p.slots) (plain_ask Bypassable n)
choice_of (AcquireReserving least n) p = Makes (W.lowest_free p.slots) (reserving_ask least n)
choice_of (Upgrade held wanted) p = Makes (W.lowest_free p.slots) (upgrade_ask (strict p) (wanted - held))
choice_of (Poll x) p = Polls x (asked_at x p) (W.polling x p)
choice_of (Try n) p = Tries n (W.direct Back n p)
choice_of (TryUpgrade held wanted) p = Tries (wanted - held) (W.direct Front (wanted - held) p)
choice_of (Release n) p = Releases n
choice_of (Drop x) p = Drops x (W.gives_back x p) (W.dropping x p)
choice_of Close p = Closes
choice_of Sleep p = Sleeps
choice_of Finish p = Finishes

-- a request made in a slot, a poll that was decided, and a drop
abbrev pub make_at : ℕ → TaskId → Ask → Plain → W.Outcome
make_at i t a p = W.quiet (made (record { 0 = i })) (with_slots (set p.slots i (Some (unpolled a t))) p)

abbrev pub poll_by : Polling → TaskId → Slot → Plain → W.Outcome
poll_by q t x p =
    record { answer = poll_answer (polled q); grants = W.poll_grants q t x p; state = p ▷ W.poll_work q t x ▷ alter_request x (W.poll_mark (polled q) t) }

abbrev pub drop_by : Dropping → Slot → Plain → W.Granting
drop_by d x p = let g = W.drop_work d x p in record { grants = g.grants; state = W.free x g.state }

unfoldable pub effect_by : TaskId → Choice → Plain → W.Outcome
effect_by t (Makes i a) p = make_at i t a p
effect_by t (Polls x n q) p = poll_by q t x p
effect_by t (Tries n d) p = W.try_by d t n p
effect_by t (Releases n) p = W.doing (W.release n p)
effect_by t (Drops x n d) p = W.doing (drop_by d x p)
effect_by t Closes p = W.quiet done (W.closing p)
effect_by t Sleeps p = W.quiet done (alter_task t slept p)
effect_by t Finishes p = W.quiet done (alter_task t finished p)

-- Which steps move permits, the queue or the reservation. The others change words only: a request made, marks, a slot freed, a task.
abbrev pub poll_moves : Polling → Bool
poll_moves Holds = false
poll_moves IsClosed = false
poll_moves Stays = false
poll_moves QueuesBack = true
poll_moves QueuesFront = true
poll_moves TakesReserved = true
poll_moves Takes = true
poll_moves Reserves = true

abbrev pub try_moves : Direct → Bool
try_moves Shut = false
try_moves NoPermits = false
try_moves Take = true

abbrev pub drop_moves : Dropping → Bool
drop_moves Leaving = true
drop_moves Unreserving = true
drop_moves Returning = true
drop_moves Nothing = false

abbrev pub moves_in : Choice → Bool
moves_in (Makes i a) = false
moves_in (Polls x n q) = poll_moves q
moves_in (Tries n d) = try_moves d
moves_in (Releases n) = true
moves_in (Drops x n d) = drop_moves d
moves_in Closes = true
moves_in Sleeps = false
moves_in Finishes = false
