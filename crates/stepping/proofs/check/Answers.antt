-- By which check is the first that refuses.
use Rattle.std.proofs.lemmas.Result.{err_from_is_err_and}
use Rattle.stepping.proofs.Checked.{by_actor, by_plan, by_times}
use Rattle.stepping.proofs.check.Goals as goal

pub returns-in_err-check_actor : goal.returns-in_err-check_actor
returns-in_err-check_actor c =
    let z = c.args in
    let p = err_from_is_err_and c.from_residual.result c.from_residual.ensures.1 in
    rw (p.1, p.2) (by_actor z.s z.tasks.now z.clocks.now z.me z.plan _ _ c.check_actor.ensures c.in_err-check_actor.was)

pub returns-in_err-plan : goal.returns-in_err-plan
returns-in_err-plan c =
    let z = c.args in
    let p = err_from_is_err_and c.from_residual-in_err-plan.result c.from_residual-in_err-plan.ensures.1 in
    rw (p.1, p.2) (by_plan z.s z.tasks.now z.clocks.now z.me z.plan _ c.check_actor.ensures c.in_ok-check_actor.was _ c.in_err-plan.was)

pub returns : goal.returns
returns c =
    let z = c.args in
    by_times z.s z.tasks.now z.clocks.now z.me z.plan _ c.check_actor.ensures c.in_ok-check_actor.was _ c.in_ok-plan.was c.times_refusal.ensures
