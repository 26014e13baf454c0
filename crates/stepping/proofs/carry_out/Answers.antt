-- What who does, and then when: together the rules' effect.
use mathlib.Core.Path.{◌∙◌}
use Rattle.stepping.proofs.Accepted.{may_do, may_time, taken}
use Rattle.stepping.proofs.carry_out.Goals as goal

pub effect-done-requires : goal.effect-done-requires
effect-done-requires c =
    let due = c.requires.0 in
    (due.fit.shaped.head, due.fit.grants, c.requires.1, may_do _ _ _ _ _ due)

pub times_step-left-requires : goal.times_step-left-requires
times_step-left-requires c =
    let due = c.requires.0 in
    let h = due.fit.shaped in (
      h.ring,
      h.formed,
      h.latest,
      h.makers,
      h.clocks,
      c.effect-done.auto.grants ∙ due.fit.grants,
      may_time _ _ _ _ _ due _ _ _ _ c.effect-done.ensures,
    )

pub returns-clause-taken : goal.returns-clause-taken
returns-clause-taken c =
    taken _ _ _ _ _ c.requires.0 c.effect-done.result c.times_step-left.result _ _ c.effect-done.ensures c.times_step-left.ensures c.times_step-left.auto.sizes c.times_step-left.auto.rows c.times_step-left.auto.last c.times_step-left.auto.makers c.times_step-left.auto.clocks c.effect-done.auto.grants
