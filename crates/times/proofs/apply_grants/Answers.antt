use native.Mathlib.Omega.{arith}
use borrow.Author.Rules.{rules}
use Rattle.times.proofs.Turning.{turn-first, turn-next, turn_last}
use Rattle.times.proofs.apply_grants.Goals as goal

pub loop-i-init : goal.loop-i-init
loop-i-init c = search (turn-first, rules)

pub loop-i-preserved : goal.loop-i-preserved
loop-i-preserved c =
    let l = c.loop-i in
    let z = l.invariant.sized in
    turn-next _ _ _ _ l.i l.out l.sizes l.rows l.last l.clocks _ l.invariant _ _ _ _ _ _ c.loop-i-test.true c.grant_at-g.ensures c.apply_grant-next.ensures
    (record {
      ring = record { places = omega (arith, c.apply_grant-next.auto.sizes, z.ring.places); entries = omega (arith, c.apply_grant-next.auto.rows, z.ring.entries) };
      latest = omega (arith, c.apply_grant-next.auto.last, z.latest);
      entries = omega (arith, c.apply_grant-next.auto.clocks, z.entries);
    })

pub returns : goal.returns
returns c = search (turn_last, rules)
