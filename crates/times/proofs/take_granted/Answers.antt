-- No grant, or one.
use native.Mathlib.Omega.{arith}
use Rattle.times.proofs.Actor.{none_taken, one_taken}
use borrow.Author.Rules.{rules}
use Rattle.times.proofs.take_granted.Goals as goal

pub returns-then-count-eq0 : goal.returns-then-count-eq0
returns-then-count-eq0 c = λ makers. search (none_taken, rules)

pub take_as-requires : goal.take_as-requires
take_as-requires c =
    (c.requires.0, c.requires.1, c.requires.2, c.requires.3, c.requires.6 (omega (arith, c.if-count-eq0.false)))

pub returns : goal.returns
returns c =
    let a = c.args in
    λ makers. one_taken a.b a.sizes.now a.rows.now a.last.now makers a.clocks.now a.stock a.me a.count _ _ _ _ _ _ _ c.if-count-eq0.false c.requires.5 c.grant_at-g.ensures (c.take_as.ensures makers)
