-- `script::no_more`: a letter at a time.
use borrow.Author.Rules.{rules}
use Rattle.rules.specs.Text.{same}
use Rattle.rules.specs.Script.{act_of}
use Rattle.script.proofs.Letters.{none_unsaid}
use Rattle.script.proofs.no_more.Goals as goal

pub returns-in-67 : goal.returns-in-67
unfolding act_of same
returns-in-67 c = rw c.in-67.is c.step_by.ensures

pub returns-in-90 : goal.returns-in-90
unfolding act_of same
returns-in-90 c = rw c.in-90.is c.step_by-in-90.ensures

pub returns-in-70 : goal.returns-in-70
unfolding act_of same
returns-in-70 c = rw c.in-70.is c.step_by-in-70.ensures

pub returns-in_default : goal.returns-in_default
returns-in_default c = search (none_unsaid, rules)
