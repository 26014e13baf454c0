use Prim.Native.Nat.{◌<◌}
use native.Mathlib.Omega.{arith}
use mathlib.Core.Path.{◌≡◌}
use mir.Syntax.{w32}
use mir.Val.{Fits}
use lib.ListN.{get_or, take}
use lib.Seq.{length-take-le, get_or-take}
use Rattle.bundle.specs.Contents.{sum_of}
use Rattle.bundle.proofs.Bodies.{sum-next, sum_all}
use borrow.Author.Rules.{rules}
use Rattle.bundle.proofs.reading.sum.Goals as goal

pub loop-size-preserved : goal.loop-size-preserved
loop-size-preserved c =
    let i = c.loop-size.size-index in
    let xs = take c.args.n c.args.lengths.now in
    let below : i < c.args.n = omega (arith, length-take-le c.args.n c.args.lengths.now (omega arith)) in
    let same : get_or xs i 0 ≡ get_or c.args.lengths.now i 0 = get_or-take c.args.n c.args.lengths.now i 0 below in
    let size : Fits w32 (get_or c.args.lengths.now i 0) = search rules in (
      omega (arith, same, size),
      rw c.from-total.ensures (sum-next xs i c.loop-size.total (sum_of xs) c.loop-size-test.true c.loop-size.invariant.1),
    )

pub returns : goal.returns
returns c =
    sum_all c.args.lengths.now c.args.n c.loop-size.size-index c.loop-size.total c.requires (search rules)
    c.loop-size.auto.size-index-end c.loop-size-test.false c.loop-size.invariant.0 c.loop-size.invariant.1
