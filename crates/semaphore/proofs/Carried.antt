-- A call on what is not broken says and does what document 01's step says and does, accepted or refused.
use Prim.Native.Nat.{ℕ}
use mathlib.Core.Path.{◌≡◌}
use mathlib.Core.Bool.{false}
use mathlib.Core.List.{List}
use Rattle.rules.specs.declared.Step.{Step}
use Rattle.rules.specs.Runs.{step}
use Rattle.state.specs.declared.BatchSemaphore.{BatchSemaphore}
use Rattle.state.specs.declared.Stepped.{Stepped}
use Rattle.state.specs.View.{Words, view_of, outcome_of}
use Rattle.broken.specs.Broken.{is_broken}
use Rattle.stepping.proofs.Carried.{carried_by}
use Rattle.semaphore.specs.Contract.{Steps}

pub step_carried : (s : BatchSemaphore) (w : Words) (gs : List ℕ) (a : Step) (r : Stepped) (v : Words) (hs : List ℕ) → is_broken s w gs ≡ false → Steps s w gs a r v hs
    → outcome_of r v hs ≡ step a (view_of s w)
step_carried s w gs a r v hs f h = carried_by s w gs a r v hs (λ n e. h.refused f n e) (λ e. h.accepted f e)
