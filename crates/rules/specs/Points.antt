-- Document 01, "Points": a question that changes nothing tells whether a scheduling point comes before the step.
use Rattle.std.specs.Prelude.{ℕ, Bool, true, not, ◌&&◌, ◌||◌, List, [], ◌∷◌, leb, Option, None, Some}
use Rattle.rules.specs.declared.TaskId.{TaskId}
use Rattle.rules.specs.declared.Slot.{Slot}
use Rattle.rules.specs.declared.Question.{Question}
use Rattle.rules.specs.declared.Question.TheVariants.{BeforeTry, BeforeTryUpgrade, BeforeRelease, BeforeClose, BeforePoll, BeforeDrop, BeforeDropAgain}
use Rattle.rules.specs.State.{State, strict, available, has_reservation, request_at, least_at}
use Rattle.rules.specs.Refusals.{Ground, ◌if◌, first, no_such_task, not_runnable, no_such_request, is_completed, bad_upgrade}

-- queued or having the reservation
abbrev pub waits : Slot → State → Bool
waits x s = (request_at x s).queued || has_reservation x s

-- Try, try-upgrade, release and close: always. Poll: when never polled, if strictly fair, holding, closed, or available at least
-- the least. Drop asks twice: first, queued or having the reservation; then, neither of these but holding and not completed.
unfoldable pub point : Question → State → Bool
point BeforeTry s = true
point BeforeRelease s = true
point BeforeClose s = true
point (BeforeTryUpgrade held wanted) s = true
point (BeforePoll x) s =
    not (request_at x s).polled && (strict s || (request_at x s).holding || s.closed || leb (least_at x s) (available s))
point (BeforeDrop x) s = waits x s
point (BeforeDropAgain x) s = not (waits x s) && (request_at x s).holding && not (request_at x s).completed

unfoldable pub point_grounds : Question → State → List Ground
point_grounds BeforeTry s = []
point_grounds BeforeRelease s = []
point_grounds BeforeClose s = []
point_grounds (BeforeTryUpgrade held wanted) s = 7 if bad_upgrade held wanted ∷ []
point_grounds (BeforePoll x) s = 3 if no_such_request x s ∷ 4 if is_completed x s ∷ []
point_grounds (BeforeDrop x) s = 3 if no_such_request x s ∷ []
point_grounds (BeforeDropAgain x) s = 3 if no_such_request x s ∷ []

-- what a question is told: whether a point comes, or a refusal's number
pub data Told : Type 0 where
  tells : Bool → Told
  refuses : ℕ → Told

abbrev pub tell : Option ℕ → Bool → Told
tell None b = tells b
tell (Some n) b = refuses n

-- Questions give only 14, 1, 2, 3, 4 and 7.
unfoldable pub told_of : TaskId → Question → State → Told
told_of t q s = tell (first (1 if no_such_task t s ∷ 2 if not_runnable t s ∷ point_grounds q s)) (point q s)

pub record Asked : Type 0 where
  pub told : Told
  pub state : State

-- a question that changes nothing
abbrev pub ask : TaskId → Question → State → Asked
ask t q s = record { told = told_of t q s; state = s }
