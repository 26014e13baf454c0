-- Left, reserved and reblocked, then marked.
use Rattle.doing.proofs.Polls.{other_shaped, left_there, reserves_so}
use borrow.Author.Rules.{rules}
use Rattle.doing.proofs.reserve.Goals as goal

pub reblock_if_unfair-requires : goal.reblock_if_unfair-requires
reblock_if_unfair-requires c = search (other_shaped, left_there, rules)

pub returns : goal.returns
returns c = search (reserves_so, rules)
