-- `script::after_actor`: by what the next field says.
use mathlib.Core.Path.{◌∙◌}
use mathlib.Core.List.{[], ◌∷◌}
use borrow.Author.Rules.{rules}
use Rattle.script.proofs.Onward.{said_none, said-last, said_then, next-within}
use Rattle.script.proofs.after_actor.Goals as goal

pub returns-in_err-n : goal.returns-in_err-n
returns-in_err-n c = c.from_residual.ensures ∙ said_none c.args.letter (c.args.t ∷ []) c.args.line.now c.args.at c.in_err-n.ensures

pub returns-in-Last : goal.returns-in-Last
returns-in-Last c =
    said-last c.args.letter (c.args.t ∷ []) c.args.line.now c.args.at c.in_ok-n.field-0 c.in_ok-n.ensures c.in-Last.n c.one_more.result c.in-Last.is c.one_more.ensures

pub after_number-requires : goal.after_number-requires
after_number-requires c = search (next-within, rules)

pub returns-in-Then : goal.returns-in-Then
returns-in-Then c =
    said_then c.args.letter (c.args.t ∷ []) c.args.line.now c.args.at c.in_ok-n.field-0 c.in_ok-n.ensures c.in-Then.n c.in-Then.next c.after_number.result c.in-Then.is c.after_number.ensures
