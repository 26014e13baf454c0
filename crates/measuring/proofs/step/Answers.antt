-- `measuring::step`: a public call gives back what is not broken where it was handed such, and that is fit for a step.
use Rattle.broken.proofs.Unbroken.{unbroken-fit, fit-unbroken}
use Rattle.measuring.proofs.step.Goals as goal

pub returns-then-this-ne0-clause-fit : goal.returns-then-this-ne0-clause-fit
returns-then-this-ne0-clause-fit g c = unbroken-fit _ _ _ (c.step.ensures.steps.unbroken (fit-unbroken _ _ _ c.requires))
