-- `script::start_of`: by the letter in front.
use borrow.Author.Rules.{rules}
use Rattle.script.proofs.FirstLine.{start-alone, start-strict, start-unfair, start_neither}
use Rattle.script.proofs.start_of.Goals as goal

pub returns-then-line-e : goal.returns-then-line-e
returns-then-line-e c = search (start-alone, rules)

pub returns-in-83 : goal.returns-in-83
returns-in-83 c = search (start-strict, rules)

pub returns-in-85 : goal.returns-in-85
returns-in-85 c = search (start-unfair, rules)

pub returns-in_default : goal.returns-in_default
returns-in_default c = search (start_neither, rules)
