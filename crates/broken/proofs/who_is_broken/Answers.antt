use Rattle.broken.proofs.Who.{past_tasks, past_queue, tasks_wrong, slots_wrong, reservation_wrong, closed_decides}
use Rattle.rules.proofs.Places.{unmap}
use borrow.Author.Rules.{rules}
use Rattle.broken.proofs.who_is_broken.Goals as goal

pub returns-then-reservation_is_broken : goal.returns-then-reservation_is_broken
returns-then-reservation_is_broken c = search (past_tasks, past_queue, tasks_wrong, slots_wrong, reservation_wrong, rules, unmap)

pub returns-else-reservation_is_broken : goal.returns-else-reservation_is_broken
returns-else-reservation_is_broken c = search (closed_decides, rules, unmap)
