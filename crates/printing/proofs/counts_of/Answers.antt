-- `printing::counts_of`: what the head has; its queue is no longer than its array.
use mathlib.Core.Path.{◌≡◌}
use lib.ListN.{length}
use borrow.Author.Rules.{rules}
use Rattle.rules.proofs.Places.{unmap}
use Rattle.printing.proofs.Lines.{queued-fits, head_shown}
use Rattle.printing.proofs.counts_of.Goals as goal

pub overflow_cast-queued : goal.overflow_cast-queued
overflow_cast-queued c =
    let n : length c.args.h.waiters.slots ≡ 32 = search (rules, unmap) in
    record { fits = search (queued-fits, rules) }

pub returns : goal.returns
returns c = search (head_shown, rules)
