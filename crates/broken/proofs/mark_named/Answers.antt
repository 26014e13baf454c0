use borrow.Author.Rules.{rules}
use Rattle.queue.specs.View.{slot0}
use Rattle.broken.proofs.Naming.{marks_start, marks_more, marks_done}
use Rattle.broken.proofs.mark_named.Goals as goal

pub loop-x-init : goal.loop-x-init
loop-x-init c = search (marks_start, rules)

pub loop-x-preserved : goal.loop-x-preserved
loop-x-preserved c = marks_more c.loop-x.seen _ c.loop-x.x-index slot0 c.loop-x-test.true (search rules) c.loop-x.invariant

pub returns : goal.returns
returns c = search (marks_done, rules)
