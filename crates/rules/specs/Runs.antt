-- One step with its refusal; a start with its refusal; and any list of steps.
use Rattle.std.specs.Prelude.{ℕ, cond, List, [], ◌∷◌, Option, None, Some}
use Rattle.rules.specs.State.{State}
use Rattle.rules.specs.Fresh.{Start, fresh, refused_fresh, refuses12}
use Rattle.rules.specs.declared.Grant.{Grant}
use Rattle.rules.specs.declared.Step.{Step}
use Rattle.rules.specs.Steps.{Answer, Outcome, quiet, effect}
use Rattle.rules.specs.Steps.Answer.{done, refused}
use Rattle.rules.specs.Refusals.{refusal}

-- A refusal returns its number, no grants, and the state exactly as it came in.
abbrev pub unless : Option ℕ → Step → State → Outcome
unless None a s = effect a s
unless (Some n) a s = quiet (refused n) s

unfoldable pub step : Step → State → Outcome
step a s = unless (refusal a s) a s

unfoldable pub start : Start → Outcome
start a = cond (refuses12 a) (quiet (refused 12) refused_fresh) (quiet done (fresh a))

-- what a step said
pub record Said : Type 0 where
  pub answer : Answer
  pub grants : List Grant

pub record Run : Type 0 where
  pub said : List Said
  pub state : State

-- the steps in order, each from the state that the one before it left
unfoldable pub run : List Step → State → Run
run [] s = record { said = []; state = s }
run (a ∷ as') s =
    let o = step a s in
    let r = run as' o.state in
    record { said = record { answer = o.answer; grants = o.grants } ∷ r.said; state = r.state }
