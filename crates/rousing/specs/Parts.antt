-- What waking and reblocking do to the tasks of queued requests: one, and a queue's from the front.
use Rattle.std.specs.Prelude.{ℕ, Bool, true, cond, not, ◌&&◌, ◌||◌, List, [], ◌∷◌, leb, ltb, eqb, get_or, set, Option, None, unwrap_or}
use Rattle.rules.specs.declared.Slot.{Slot}
use Rattle.rules.specs.Task.{is_finished}
use Rattle.splitting.specs.Plain.{Task, no_task, blocked, unblocked, wakened, Request, no_request}
use Rattle.rousing.specs.declared.Change.{Change}
use Rattle.rousing.specs.declared.Change.TheVariants.{Wake, WakeIfEnough, Reblock}

-- the request in a slot
abbrev pub request_in : List (Option Request) → Slot → Request
request_in rs x = unwrap_or (get_or rs x.0 None) no_request

-- whether the request's task is to be changed, if it is not finished
abbrev pub concerns : Change → Request → Bool
concerns Wake r = true
concerns (WakeIfEnough n) r = leb r.ask.least n
concerns (Reblock b n me) r = not (eqb r.task.0 me.0) && (b || ltb n r.ask.least)

abbrev pub change_of : Change → Task → Task
change_of Wake a = wakened (unblocked a)
change_of (WakeIfEnough n) a = wakened (unblocked a)
change_of (Reblock b n me) a = blocked a

-- the tasks with one of them unblocked and woken
abbrev pub awake : ℕ → List Task → List Task
awake t ts = set ts t (wakened (unblocked (get_or ts t no_task)))

-- the tasks with that of a request changed
abbrev pub owner_changed : Change → Request → List Task → List Task
owner_changed change r ts =
    let a = get_or ts r.task.0 no_task in
    cond (concerns change r && not (is_finished a.state)) (set ts r.task.0 (change_of change a)) ts

-- the tasks with that of every request of a queue changed
unfoldable pub for_each : Change → List (Option Request) → List Slot → List Task → List Task
for_each change rs [] ts = ts
for_each change rs (x ∷ q) ts = for_each change rs q (owner_changed change (request_in rs x) ts)

-- the tasks with that of a request woken, if its ask fits
abbrev pub woken_if_asked : ℕ → Request → List Task → List Task
woken_if_asked n r ts = cond (leb r.ask.asked n) (awake r.task.0 ts) ts
