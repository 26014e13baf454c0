-- Taken, left and reblocked, then marked and granted.
use Rattle.doing.proofs.Polls.{other_shaped, left_there, taken_left}
use borrow.Author.Rules.{rules}
use Rattle.doing.proofs.take_and_leave.Goals as goal

pub reblock_if_unfair-requires : goal.reblock_if_unfair-requires
reblock_if_unfair-requires c = search (left_there, other_shaped, rules)

pub returns : goal.returns
returns c =
    taken_left c.args.me c.args.x c.args.asked c.args.h _ _ _ _ _ _ _ _ c.requires.0 c.leave-left.ensures c.reblock_if_unfair.ensures c.poll_granted.ensures
