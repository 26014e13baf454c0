-- `script::stock_at`: a number, with a field behind it.
use borrow.Author.Rules.{rules}
use Rattle.script.proofs.Onward.{next-within}
use Rattle.script.proofs.FirstLine.{stock-last, stock_then, stock_none}
use Rattle.script.proofs.stock_at.Goals as goal

pub maker_at-requires : goal.maker_at-requires
maker_at-requires c = search (next-within, rules)

pub returns-in_err-number_at : goal.returns-in_err-number_at
returns-in_err-number_at c = search (stock_none, rules)

pub returns-in-Last : goal.returns-in-Last
returns-in-Last c = search (stock-last, rules)

pub returns-in-Then : goal.returns-in-Then
returns-in-Then c = search (stock_then, rules)
