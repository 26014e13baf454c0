-- What is said of the queue's parts.
use Rattle.std.specs.Prelude.{ℕ, ◌<◌, ◌≡◌, Bool, false, cond, List, [], ◌∷◌, leb, length, get_or, Option, None, unwrap_or}
use Rattle.rules.specs.declared.Slot.{Slot}
use Rattle.rules.specs.declared.Verdict.{Verdict}
use Rattle.rules.specs.declared.Verdict.TheVariants.{Leaves, Fits, Passed, Ends}
use Rattle.rules.specs.Task.{is_finished}
use Rattle.rules.specs.Request.{is_bypassable}
use Rattle.rules.specs.Broken.{twice}
use Rattle.splitting.specs.Plain.{Plain, Task, Request, no_task, no_request}
use Rattle.queue.specs.View.{slot0}
use Rattle.head.specs.declared.Head.{Head}
use Rattle.head.specs.View.{plain_of, Shaped, Shows}

-- a rule that alters no task, carried out on a head and the words of the slots: whatever the tasks
abbrev pub AnyTasks : (Plain → Plain) → Head → List ℕ → Head → List ℕ → Type 0
AnyTasks f r after h before = (tasks : List ℕ) → Shaped h before tasks → Shows r after tasks (f (plain_of h before tasks))

-- the slot's place in a queue that names none twice
pub record StandsAt (x : Slot) (i : ℕ) (q : List Slot) : Type 0 where
  pub within : i < length q
  pub there : x ≡ get_or q i slot0
  pub once : twice q ≡ false

-- the verdict on a request of one of the tasks, at a stock
abbrev pub verdict_as : List Task → Request → ℕ → Verdict
verdict_as ts r n =
    cond (is_finished (get_or ts r.task.0 no_task).state) Leaves
    (cond (leb r.ask.asked n) Fits
    (cond (is_bypassable r.ask.kind) Passed
    Ends))

-- whether the front request is Bypassable
abbrev pub front_as : List Slot → List (Option Request) → Bool
front_as [] rs = false
front_as (x ∷ q) rs = is_bypassable (unwrap_or (get_or rs x.0 None) no_request).ask.kind
