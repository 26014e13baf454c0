-- `script::maker_at`: a maker, with a field behind it.
use borrow.Author.Rules.{rules}
use Rattle.script.proofs.FirstLine.{maker-last, maker_none, maker_told}
use Rattle.script.proofs.maker_at.Goals as goal

pub returns-then-line-e : goal.returns-then-line-e
returns-then-line-e c = search (maker-last, rules)

pub returns-in_err-maker : goal.returns-in_err-maker
returns-in_err-maker c = search (maker_none, rules)

pub returns : goal.returns
returns c = search (maker_told, rules)
