use borrow.Author.Rules.{rules}
use Rattle.batches.specs.View.{ring_of}
use Rattle.batches.proofs.Consuming.{turn_part, turn-whole, nothing_left, no_batch}
use Rattle.batches.proofs.PermitClocks.consume.Goals as goal

pub loop-left-init : goal.loop-left-init
loop-left-init c = record { range = search rules; sizes = search rules; rows = search rules; meal = rw c.new-acc.ensures }

pub loop-left-preserved-then-left-size : goal.loop-left-preserved-then-left-size
loop-left-preserved-then-left-size c =
    let l = c.loop-left in
    turn_part (ring_of l.out l.sizes _) l.acc l.left _ l.invariant _ _ c.loop-left-test.true c.if-out-gt0.true c.clock_at.ensures c.update-acc.ensures c.if-left-size.true

pub loop-left-preserved : goal.loop-left-preserved
loop-left-preserved c =
    let l = c.loop-left in
    turn-whole (ring_of l.out l.sizes _) l.acc l.left _ l.invariant _ _ c.loop-left-test.true c.if-out-gt0.true c.clock_at.ensures c.update-acc.ensures c.if-left-size.false

pub returns-after-loop-left : goal.returns-after-loop-left
returns-after-loop-left c = search (nothing_left, rules)

pub returns-else-out-gt0 : goal.returns-else-out-gt0
returns-else-out-gt0 c = search (no_batch, rules)
