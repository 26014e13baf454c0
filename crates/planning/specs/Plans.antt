-- What the checks say and what is planned, in the words of the rules.
use Rattle.std.specs.Prelude.{ℕ, ◌≡◌, Bool, not, ◌&&◌, ◌||◌, List, [], ◌∷◌, eqb, Result}
use Rattle.rules.specs.declared.TaskId.{TaskId}
use Rattle.rules.specs.declared.Act.{Act}
use Rattle.rules.specs.Refusals.{Ground, ◌if◌, first}
use Rattle.splitting.specs.Plain.{Plain, Request}
use Rattle.splitting.specs.Who.{no_such_task, not_runnable, grounds}
use Rattle.splitting.specs.Times.{back_of, ticks_in}
use Rattle.replies.specs.declared.Refusal.{Refusal}
use Rattle.replies.specs.Answers.{given}
use Rattle.choosing.specs.declared.Choice.{Choice}
use Rattle.choosing.specs.Choice.{choice_of}
use Rattle.planning.specs.declared.Plan.{Plan}

-- the first of some grounds that is given
pub record Says (r : Result (Unit {0}) Refusal) (gs : List Ground) : Type 0 where
  pub first : given r ≡ first gs

-- 1 and 2
abbrev pub actor_grounds : TaskId → Plain → List Ground
actor_grounds t s = 1 if no_such_task t s ∷ 2 if not_runnable t s ∷ []

-- a plain ask of 0, neither holding nor closed
abbrev pub poll_asks_nothing : Request → Bool → Bool
poll_asks_nothing r closed = not r.ask.reserving && eqb r.ask.asked 0 && not (r.holding || closed)

-- which ground is given, how many permits come back, whether the actor would tick, and what the step comes to
pub record Plans (r : Plan) (gs : List Ground) (n : ℕ) (b : Bool) (c : Choice) : Type 0 where
  pub check : given r.check ≡ first gs
  pub back : r.back ≡ n
  pub ticks : r.ticks ≡ b
  pub choice : r.choice ≡ c

-- all of these as the rules have them of an act
abbrev pub Planned : Plan → Act → Plain → Type 0
Planned r act p = Plans r (grounds act p) (back_of act p) (ticks_in act p) (choice_of act p)
