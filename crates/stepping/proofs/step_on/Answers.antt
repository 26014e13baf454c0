-- Planned, checked, and then refused or taken.
use Rattle.stepping.proofs.Stepping.{checked_whole, refused_steps, no_refusal, taken_steps}
use Rattle.stepping.proofs.step_on.Goals as goal

pub plan_act-plan-requires : goal.plan_act-plan-requires
plan_act-plan-requires c =
    (c.requires.shaped.head.waiters, c.requires.shaped.head.slot-words)

pub check-requires : goal.check-requires
check-requires c =
    let h = c.requires.shaped in
    (h.head.tasks, h.head.task-words, h.clocks)

pub accept-requires : goal.accept-requires
accept-requires c =
    let a = c.args in
    record {
      fit = c.requires;
      planned = c.plan_act-plan.ensures a.w.now.tasks.now;
      unrefused = no_refusal a.s _ a.w.now.grants.now c.requires a.a _ (checked_whole a.s _ a.w.now.grants.now c.requires a.a c.check.result c.plan_act-plan.result c.check.ensures (c.plan_act-plan.ensures a.w.now.tasks.now)) c.in-Ok.is;
    }

pub returns-in-Ok-clause-steps : goal.returns-in-Ok-clause-steps
returns-in-Ok-clause-steps c =
    let a = c.args in
    taken_steps a.s _ a.w.now.grants.now c.requires a.a _ (checked_whole a.s _ a.w.now.grants.now c.requires a.a c.check.result c.plan_act-plan.result c.check.ensures (c.plan_act-plan.ensures a.w.now.tasks.now)) c.accept.result _ _ c.in-Ok.is c.accept.ensures.taken

pub returns-in-Err-clause-steps : goal.returns-in-Err-clause-steps
returns-in-Err-clause-steps c =
    let a = c.args in
    rw c.refuse.ensures (refused_steps a.s _ a.w.now.grants.now c.requires a.a _ (checked_whole a.s _ a.w.now.grants.now c.requires a.a c.check.result c.plan_act-plan.result c.check.ensures (c.plan_act-plan.ensures a.w.now.tasks.now)) _ c.in-Err.is)
