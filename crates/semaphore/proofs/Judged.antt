-- Each way out of a call: broken, or a step of a fit state.
use Prim.Native.Nat.{ℕ}
use mathlib.Core.Path.{◌≡◌, sym, ◌∙◌}
use mathlib.Core.Bool.{Bool, false}
use mathlib.Core.List.{List}
use Rattle.rules.specs.declared.Step.{Step}
use Rattle.rules.proofs.Bools.{clash}
use Rattle.state.specs.declared.BatchSemaphore.{BatchSemaphore}
use Rattle.state.specs.declared.Stepped.{Stepped}
use Rattle.state.specs.View.{Words}
use Rattle.broken.specs.Broken.{Judged}
use Rattle.broken.proofs.Unbroken.{fit-unbroken}
use Rattle.stepping.specs.Contract.{StepsOn}
use Rattle.semaphore.specs.Contract.{Steps}

module _ (s : BatchSemaphore) (w : Words) (gs : List ℕ) (a : Step) (r : Stepped) (b : Bool) (j : Judged s w gs b) where
  pub steps_fit : (v : Words) (hs : List ℕ) → b ≡ false → StepsOn s w gs a r v hs → Steps s w gs a r v hs
  steps_fit v hs h k =
      record {
        broken = λ e. clash e (sym j.answer ∙ h);
        refused = λ e. k.refused;
        accepted = λ e. k.accepted;
        unbroken = λ e. fit-unbroken r.state v hs k.fit;
      }
