use borrow.Author.Rules.{rules}
use Rattle.rousing.proofs.Turns.{along_start, along_on, along_done}
use Rattle.rousing.proofs.change_owners.Goals as goal

pub loop-x-init : goal.loop-x-init
loop-x-init c = search (along_start, rules)

pub loop-x-preserved : goal.loop-x-preserved
loop-x-preserved c = search (along_on, rules)

pub returns : goal.returns
returns c = search (along_done, rules)
