-- `script::step_of`: a letter alone says nothing.
use borrow.Author.Rules.{rules}
use Rattle.script.proofs.Onward.{step-on, step-alone}
use Rattle.script.proofs.step_of.Goals as goal

pub returns-then-line-e : goal.returns-then-line-e
returns-then-line-e c = search (step-alone, rules)

pub returns : goal.returns
returns c = search (step-on, rules)
