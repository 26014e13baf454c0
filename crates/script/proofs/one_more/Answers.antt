-- `script::one_more`: a letter at a time.
use borrow.Author.Rules.{rules}
use Rattle.rules.specs.Text.{same}
use Rattle.rules.specs.Script.{act_of}
use Rattle.script.proofs.Letters.{one_unsaid}
use Rattle.script.proofs.one_more.Goals as goal

pub returns-in-65 : goal.returns-in-65
unfolding act_of same
returns-in-65 c = rw c.in-65.is c.step_by.ensures

pub returns-in-66 : goal.returns-in-66
unfolding act_of same
returns-in-66 c = rw c.in-66.is c.step_by-in-66.ensures

pub returns-in-80 : goal.returns-in-80
unfolding act_of same
returns-in-80 c = rw (c.in-80.is, ← c.named.ensures) c.step_by-in-80.ensures

pub returns-in-84 : goal.returns-in-84
unfolding act_of same
returns-in-84 c = rw c.in-84.is c.step_by-in-84.ensures

pub returns-in-76 : goal.returns-in-76
unfolding act_of same
returns-in-76 c = rw c.in-76.is c.step_by-in-76.ensures

pub returns-in-68 : goal.returns-in-68
unfolding act_of same
returns-in-68 c = rw (c.in-68.is, ← c.named-in-68.ensures) c.step_by-in-68.ensures

pub returns-in_default : goal.returns-in_default
returns-in_default c = search (one_unsaid, rules)
