-- `trace::print_step`: the line of the outcome, whatever else is lent.
use borrow.Author.Rules.{rules}
use Rattle.trace.proofs.Turns.{step_room, step-printed}
use Rattle.trace.proofs.print_step.Goals as goal

pub print_line-requires : goal.print_line-requires
print_line-requires c = search (step_room, rules)

pub returns : goal.returns
returns c = search (step-printed, rules)
