-- The actor, then the question.
use Rattle.std.proofs.lemmas.Result.{err_from_is_err_and}
use Rattle.points.proofs.Asking.{actor-refused, actor-accepted}
use Rattle.points.proofs.ask.Goals as goal

pub returns-in_err-check_actor : goal.returns-in_err-check_actor
returns-in_err-check_actor c =
    let p = err_from_is_err_and c.from_residual.result c.from_residual.ensures.1 in
    rw (p.1, p.2) (actor-refused _ _ _ _ _ _ c.check_actor.ensures _ c.in_err-check_actor.was)

pub returns : goal.returns
returns c =
    actor-accepted _ _ _ _ _ _ c.check_actor.ensures _ c.in_ok-check_actor.was c.ask_runnable.ensures
