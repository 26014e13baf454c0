-- One answer for each decision.
use Rattle.doing.proofs.Decided.{poll-place, poll-enough, polls_back, polls_front, polls_reserved, polls_taking, polls_reserving}
use borrow.Author.Rules.{rules}
use Rattle.doing.proofs.poll_by.Goals as goal

pub wait_in_queue-requires : goal.wait_in_queue-requires
wait_in_queue-requires c = search (poll-place, rules)

pub wait_in_queue-requires-in-QueuesFront : goal.wait_in_queue-requires-in-QueuesFront
wait_in_queue-requires-in-QueuesFront c = search (poll-place, rules)

pub take_reserved-requires : goal.take_reserved-requires
take_reserved-requires c = search (poll-enough, rules)

pub take_and_leave-requires : goal.take_and_leave-requires
take_and_leave-requires c = search (poll-enough, rules)

pub returns-in-QueuesBack : goal.returns-in-QueuesBack
returns-in-QueuesBack c = search (polls_back, rules)

pub returns-in-QueuesFront : goal.returns-in-QueuesFront
returns-in-QueuesFront c = search (polls_front, rules)

pub returns-in-TakesReserved : goal.returns-in-TakesReserved
returns-in-TakesReserved c = search (polls_reserved, rules)

pub returns-in-Takes : goal.returns-in-Takes
returns-in-Takes c = search (polls_taking, rules)

pub returns-in-Reserves : goal.returns-in-Reserves
returns-in-Reserves c = search (polls_reserving, rules)
