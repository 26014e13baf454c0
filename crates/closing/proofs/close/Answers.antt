-- By whether it was closed before.
use Rattle.closing.proofs.Closing.{closed-before, closes}
use borrow.Author.Rules.{rules}
use Rattle.closing.proofs.close.Goals as goal

pub returns-then-h : goal.returns-then-h
returns-then-h c = search (closed-before, rules)

pub returns : goal.returns
returns c =
    let a = c.args in
    closes a.h a.slots.now a.tasks.now c.if-h.false _ _ _ c.empty_queue-emptied.ensures _ _ c.drop_reservation.ensures
