-- No second answer fits what a question is told, nor the public question's contract.
use Rattle.std.specs.Prelude.{Bool, Result, Ok, Err}
use Prim.Native.Nat.{ℕ}
use mathlib.Core.Path.{◌≡◌, refl, sym, ap, ◌∙◌}
use mathlib.Core.List.{List}
use Rattle.rules.specs.declared.TaskId.{TaskId}
use Rattle.rules.specs.declared.Question.{Question}
use Rattle.rules.specs.Points.{Told as RuleTold}
use Rattle.rules.specs.Points.Told.{tells, refuses}
use Rattle.replies.specs.declared.Refusal.{Refusal}
use Rattle.replies.proofs.Numbers.{apart, named, named-number}
use Rattle.state.specs.declared.BatchSemaphore.{BatchSemaphore}
use Rattle.state.specs.View.{Words}
use Rattle.points.specs.Told.{told_by, answer_to}

-- the answer that is told so
abbrev telling : RuleTold → Result Bool Refusal
telling (tells b) = Ok b
telling (refuses n) = Err (named n)

back : (a : Result Bool Refusal) → telling (told_by a) ≡ a
back (Ok b) = refl
back (Err r) = ap Err (named-number r)

-- two results that are told the same are the same
pub same-told : (a b : Result Bool Refusal) → told_by a ≡ told_by b → a ≡ b
same-told a b e = apart told_by telling back a b e

-- two results that both meet the contract of a question are the same
pub told-once : (s : BatchSemaphore) (w : Words) (gs : List ℕ) (t : TaskId) (q : Question) (a b : Result Bool Refusal) → told_by a ≡ answer_to s w gs t q → told_by b ≡ answer_to s w gs t q → a ≡ b
told-once s w gs t q a b e f = same-told a b (e ∙ sym f)
