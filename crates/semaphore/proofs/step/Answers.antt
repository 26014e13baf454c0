-- A step of a fit state: what is broken is refused above it.
use mathlib.Core.Path.{subst}
use Rattle.state.specs.View.{words_of}
use Rattle.broken.specs.Broken.{Judged}
use Rattle.semaphore.proofs.Judged.{steps_fit}
use Rattle.semaphore.proofs.step.Goals as goal

pub returns-clause-steps : goal.returns-clause-steps
returns-clause-steps c =
    let w = c.args.w.now in
    let judged = subst (λ gs. Judged c.args.s (words_of w) gs c.is_broken.result) c.read.ensures.grants
    (subst (λ v. Judged c.args.s v c.read.result.grants.now c.is_broken.result) c.read.ensures.state c.is_broken.ensures) in
    steps_fit c.args.s _ w.grants.now c.args.a c.step_on.result c.is_broken.result judged _ _ c.if-is_broken.false c.step_on.ensures.steps
