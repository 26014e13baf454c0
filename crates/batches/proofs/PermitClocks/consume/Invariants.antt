-- Front batches are eaten, one a turn.
use Prim.Native.Nat.{◌+◌}
use Rattle.rules.specs.Sizes.{width}
use Rattle.rules.specs.Clock.{empty}
use Rattle.rules.specs.Taking.{eat}
use Rattle.batches.specs.View.{batches_of, ring_of}
use Rattle.batches.proofs.Consuming.{Turn}
use Rattle.batches.proofs.PermitClocks.consume.Given as goal

abbrev pub invariant-loop-left : goal.invariant-loop-left
invariant-loop-left l =
    Turn (ring_of l.out l.sizes l.rows) l.acc l.left (eat (batches_of (ring_of l.initial.out l.initial.sizes l.rows)) l.n (empty width))

abbrev pub decreases-loop-left : goal.decreases-loop-left
decreases-loop-left l = l.out.count + l.left
