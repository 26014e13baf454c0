use borrow.Author.Rules.{rules}
use Rattle.scanning.proofs.Scanning.{scanning, turn-within, scan_over, standing, grants-room, fitting, after-leaves, shorter_leaves, after-fits, shorter_fits, after-passes, scan-ends}
use Rattle.scanning.proofs.unblock_waiters_from_front.Goals as goal

pub loop-i-init : goal.loop-i-init
loop-i-init c = search (scanning, rules)

pub at-x-requires : goal.at-x-requires
at-x-requires c = search (turn-within, rules)

pub leave_at-now-requires : goal.leave_at-now-requires
leave_at-now-requires c = search (standing, rules)

pub loop-i-smaller-in-Leaves : goal.loop-i-smaller-in-Leaves
loop-i-smaller-in-Leaves c = search (shorter_leaves, rules)

pub loop-i-preserved-in-Leaves : goal.loop-i-preserved-in-Leaves
loop-i-preserved-in-Leaves c =
    let w = c.loop-i in
    after-leaves _ _ _ w.now w.slots w.tasks w.grants w.count w.i w.invariant _ c.queue_length.ensures c.loop-i-test.true _ c.at-x.ensures _ c.request_at-r.ensures _ c.judge.ensures c.in-Leaves.is _ _ c.leave_at-now.ensures

pub push_grant-requires : goal.push_grant-requires
push_grant-requires c = search (grants-room, rules)

pub overflow_add-count : goal.overflow_add-count
overflow_add-count c = search (grants-room, rules)

pub grant-now-requires : goal.grant-now-requires
grant-now-requires c = search (standing, fitting, rules)

pub loop-i-smaller-in-Fits : goal.loop-i-smaller-in-Fits
loop-i-smaller-in-Fits c =
    let w = c.loop-i in
    shorter_fits _ _ _ w.now w.slots w.tasks w.grants w.count w.i w.invariant _ c.queue_length.ensures c.loop-i-test.true _ c.at-x.ensures _ c.request_at-r.ensures _ c.judge.ensures _ _ _ c.grant-now.ensures

pub loop-i-preserved-in-Fits : goal.loop-i-preserved-in-Fits
loop-i-preserved-in-Fits c =
    let w = c.loop-i in
    after-fits _ _ _ w.now w.slots w.tasks w.grants w.count w.i w.invariant _ c.queue_length.ensures c.loop-i-test.true _ c.at-x.ensures _ c.request_at-r.ensures _ c.judge.ensures c.in-Fits.is _ c.push_grant.auto.grants c.push_grant.ensures _ _ _ c.grant-now.ensures

pub overflow_add-i : goal.overflow_add-i
overflow_add-i c = search (turn-within, rules)

pub loop-i-preserved : goal.loop-i-preserved
loop-i-preserved c =
    let w = c.loop-i in
    after-passes _ _ _ w.now w.slots w.tasks w.grants w.count w.i w.invariant _ c.queue_length.ensures c.loop-i-test.true _ c.at-x.ensures _ c.request_at-r.ensures _ c.judge.ensures c.in-Passed.is

pub returns-after-loop-i : goal.returns-after-loop-i
returns-after-loop-i c = search (scan_over, rules)

pub returns-in-Ends : goal.returns-in-Ends
returns-in-Ends c = search (scan-ends, rules)
