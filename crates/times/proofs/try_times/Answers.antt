-- A failed try, or the grant.
use mathlib.Core.Path.{sym, ◌∙◌}
use Rattle.times.proofs.Stepping.{tried_failed, tried-not, shown}
use Rattle.times.proofs.try_times.Goals as goal

pub returns-then-is_failed : goal.returns-then-is_failed
returns-then-is_failed c =
    let a = c.args in
    let e = sym c.is_failed.ensures ∙ c.if-is_failed.true in
    λ makers. tried_failed a.b a.sizes.now a.rows.now a.last.now makers a.clocks.now a.stock a.me a.reply a.count _ _ e (c.requires.7 e) c.requires.1 (c.fail_try.ensures a.b a.sizes.now a.rows.now makers)

pub returns : goal.returns
returns c =
    let a = c.args in
    λ makers. shown _ _ _ _ makers _ _ _ (tried-not a.reply a.me _ (sym c.is_failed.ensures ∙ c.if-is_failed.false)) (c.take_granted.ensures makers)
