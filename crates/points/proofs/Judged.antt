-- 14 first: what is broken is told 14, and else the question is one about the part without clocks.
use Prim.Native.Nat.{ℕ}
use mathlib.Core.Path.{◌≡◌, sym, ap, ◌∙◌}
use mathlib.Core.Bool.{Bool, true, false, cond}
use mathlib.Core.List.{List}
use Rattle.rules.specs.declared.TaskId.{TaskId}
use Rattle.rules.specs.declared.Question.{Question}
use Rattle.rules.specs.Points.{Told as RuleTold, told_of as whole_told}
use Rattle.rules.specs.Points.Told.{refuses}
use Rattle.splitting.specs.Asking.{told_of}
use Rattle.splitting.proofs.Asked.{told-plain}
use Rattle.state.specs.declared.BatchSemaphore.{BatchSemaphore}
use Rattle.state.specs.View.{Words, plain_in, view_of}
use Rattle.state.proofs.Viewing.{forget-view}
use Rattle.broken.specs.Broken.{Judged}
use Rattle.points.specs.Told.{answer_to}

module _ (s : BatchSemaphore) (w : Words) (gs : List ℕ) (t : TaskId) (q : Question) (b : Bool) (j : Judged s w gs b) where
  by_test : cond b (refuses 14) (whole_told t q (view_of s w)) ≡ answer_to s w gs t q
  by_test = ap (λ (k : Bool). cond k (refuses 14) (whole_told t q (view_of s w))) j.answer

  pub told-broken : b ≡ true → refuses 14 ≡ answer_to s w gs t q
  told-broken e = rw e at by_test

  pub told-unbroken : (r : RuleTold) → b ≡ false → r ≡ told_of t q (plain_in s w) → r ≡ answer_to s w gs t q
  told-unbroken r e f = f ∙ sym (told-plain t q (view_of s w) ∙ ap (told_of t q) (forget-view s w)) ∙ (rw e at by_test)
