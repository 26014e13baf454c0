-- `script::two_more`: a letter at a time.
use borrow.Author.Rules.{rules}
use Rattle.rules.specs.Text.{same}
use Rattle.rules.specs.Script.{act_of}
use Rattle.script.proofs.Letters.{two_unsaid}
use Rattle.script.proofs.two_more.Goals as goal

pub returns-in-82 : goal.returns-in-82
unfolding act_of same
returns-in-82 c = rw c.in-82.is c.step_by.ensures

pub returns-in-85 : goal.returns-in-85
unfolding act_of same
returns-in-85 c = rw c.in-85.is c.step_by-in-85.ensures

pub returns-in-86 : goal.returns-in-86
unfolding act_of same
returns-in-86 c = rw c.in-86.is c.step_by-in-86.ensures

pub returns-in_default : goal.returns-in_default
returns-in_default c = search (two_unsaid, rules)
