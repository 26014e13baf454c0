-- The request leaves, and the queue that is left is scanned or not.
use Rattle.scanning.proofs.Removing.{left-shaped, left_reads, left-once, removed_scanned, removed_only}
use borrow.Author.Rules.{rules}
use Rattle.scanning.proofs.remove_waiter.Goals as goal

pub must_scan-requires : goal.must_scan-requires
must_scan-requires c =
    left_reads c.args.h _ _ _ _ c.args.x c.requires.0 c.leave-left.ensures

pub unblock_waiters_from_front-requires : goal.unblock_waiters_from_front-requires
unblock_waiters_from_front-requires c = search (left-shaped, left-once, rules)

pub returns-then-must_scan : goal.returns-then-must_scan
returns-then-must_scan c =
    removed_scanned c.args.h _ _ _ _ c.args.x c.requires.0 c.leave-left.ensures _ _ c.is_first-first.ensures c.must_scan.ensures c.if-must_scan.true _ _ _ _ c.unblock_waiters_from_front.ensures

pub returns : goal.returns
returns c = search (removed_only, rules)
