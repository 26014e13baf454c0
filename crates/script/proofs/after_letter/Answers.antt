-- `script::after_letter`: by what the next field says.
use mathlib.Core.Path.{◌∙◌}
use mathlib.Core.List.{[]}
use borrow.Author.Rules.{rules}
use Rattle.script.proofs.Onward.{said_none, said-last, said_then, next-within}
use Rattle.script.proofs.after_letter.Goals as goal

pub returns-in_err-t : goal.returns-in_err-t
returns-in_err-t c = c.from_residual.ensures ∙ said_none c.args.letter [] c.args.line.now c.args.at c.in_err-t.ensures

pub returns-in-Last : goal.returns-in-Last
returns-in-Last c =
    said-last c.args.letter [] c.args.line.now c.args.at c.in_ok-t.field-0 c.in_ok-t.ensures c.in-Last.t c.no_more.result c.in-Last.is c.no_more.ensures

pub after_actor-requires : goal.after_actor-requires
after_actor-requires c = search (next-within, rules)

pub returns-in-Then : goal.returns-in-Then
returns-in-Then c =
    said_then c.args.letter [] c.args.line.now c.args.at c.in_ok-t.field-0 c.in_ok-t.ensures c.in-Then.t c.in-Then.next c.after_actor.result c.in-Then.is c.after_actor.ensures
