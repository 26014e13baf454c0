-- What a question is told, in the words of the rules.
use Rattle.std.specs.Prelude.{ℕ, Bool, cond, List, Result, Ok, Err}
use Rattle.rules.specs.declared.TaskId.{TaskId}
use Rattle.rules.specs.declared.Question.{Question}
use Rattle.rules.specs.Refusals.{first}
use Rattle.rules.specs.Points.{Told as RuleTold, tell, told_of}
use Rattle.rules.specs.Points.Told.{tells, refuses}
use Rattle.splitting.specs.Plain.{Plain}
use Rattle.splitting.specs.Asking.{point, point_grounds}
use Rattle.replies.specs.declared.Refusal.{Refusal}
use Rattle.replies.specs.Answers.{number_of}
use Rattle.state.specs.declared.BatchSemaphore.{BatchSemaphore}
use Rattle.state.specs.View.{Words, view_of}
use Rattle.broken.specs.Broken.{is_broken}

-- whether a point comes, or document 01's number of a refusal
abbrev pub told_by : Result Bool Refusal → RuleTold
told_by (Ok b) = tells b
told_by (Err r) = refuses (number_of r)

-- the answer to a Runnable task
abbrev pub answer : Question → Plain → RuleTold
answer q p = tell (first (point_grounds q p)) (point q p)

-- the answer to a question about any struct and any words: 14 for what is broken, else what the rules say of the state it stands for
abbrev pub answer_to : BatchSemaphore → Words → List ℕ → TaskId → Question → RuleTold
answer_to s w gs t q = cond (is_broken s w gs) (refuses 14) (told_of t q (view_of s w))
