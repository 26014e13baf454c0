-- 3 and 4, then the point.
use Rattle.std.proofs.lemmas.Result.{err_from_is_err_and}
use mathlib.Core.Bool.{true, false}
use Rattle.splitting.specs.Asking.{point_grounds}
use Rattle.planning.proofs.Grounds.{completed-read}
use Rattle.points.proofs.Asking.{told_missing, told_found, told_here, told-on, told-point}
use Rattle.points.proofs.ask_poll.Goals as goal

pub returns-in_err-r : goal.returns-in_err-r
unfolding point_grounds
returns-in_err-r c =
    let p = err_from_is_err_and c.from_residual.result c.from_residual.ensures.1 in
    λ ts. rw (p.1, p.2) (told_missing _ _ _ _ c.in_err-r.ensures.refused)

pub returns-then-r : goal.returns-then-r
unfolding point_grounds
returns-then-r c =
    let e = c.in_ok-r.ensures in
    λ ts. told_found _ _ _ _ _ e.read e.used (told_here 4 _ _ _ (completed-read _ _ e.read true c.if-r.true))

pub returns : goal.returns
unfolding point_grounds
returns c =
    let e = c.in_ok-r.ensures in
    λ ts. told_found _ _ _ _ _ e.read e.used (told-on 4 _ _ _ _ (completed-read _ _ e.read false c.if-r.false) (told-point _ _ (c.before_poll.ensures c.args.x c.args.slots.now ts e.read)))
