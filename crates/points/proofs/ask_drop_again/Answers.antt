-- 3, then the point.
use Rattle.std.proofs.lemmas.Result.{err_from_is_err_and}
use mathlib.Core.Path.{ap}
use Rattle.rules.specs.Points.Told.{tells}
use Rattle.splitting.specs.Asking.{point_grounds}
use Rattle.points.proofs.Asking.{told_missing, told_found}
use Rattle.points.proofs.ask_drop_again.Goals as goal

pub returns-in_err-r : goal.returns-in_err-r
unfolding point_grounds
returns-in_err-r c =
    let p = err_from_is_err_and c.from_residual.result c.from_residual.ensures.1 in
    λ ts. rw (p.1, p.2) (told_missing _ _ _ _ c.in_err-r.ensures.refused)

pub returns : goal.returns
unfolding point_grounds
returns c =
    let e = c.in_ok-r.ensures in
    λ ts. told_found _ _ _ _ _ e.read e.used (ap tells (c.before_drop_again.ensures c.args.slots.now ts e.read))
