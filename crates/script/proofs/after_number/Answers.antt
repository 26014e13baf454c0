-- `script::after_number`: two numbers behind the actor are the most.
use mathlib.Core.Path.{◌∙◌}
use mathlib.Core.List.{[], ◌∷◌}
use borrow.Author.Rules.{rules}
use Rattle.script.proofs.Onward.{said_none, said-last, said_too_much}
use Rattle.script.proofs.after_number.Goals as goal

pub returns-in_err-m : goal.returns-in_err-m
returns-in_err-m c = c.from_residual.ensures ∙ said_none c.args.letter (c.args.t ∷ c.args.n ∷ []) c.args.line.now c.args.at c.in_err-m.ensures

pub returns-in-Last : goal.returns-in-Last
returns-in-Last c =
    said-last c.args.letter (c.args.t ∷ c.args.n ∷ []) c.args.line.now c.args.at c.in_ok-m.field-0 c.in_ok-m.ensures c.in-Last.m c.two_more.result c.in-Last.is c.two_more.ensures

pub returns-in-Then : goal.returns-in-Then
returns-in-Then c = search (said_too_much, rules)
