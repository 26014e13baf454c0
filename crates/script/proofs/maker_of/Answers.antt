-- `script::maker_of`: a dash, or a number.
use borrow.Author.Rules.{rules}
use Rattle.script.proofs.FirstLine.{maker_dash, no_number, maker-named}
use Rattle.script.proofs.maker_of.Goals as goal

pub returns-then-letter-eq45 : goal.returns-then-letter-eq45
returns-then-letter-eq45 c = search (maker_dash, rules)

pub returns-in_err-t : goal.returns-in_err-t
returns-in_err-t c = search (no_number, rules)

pub returns : goal.returns
returns c = search (maker-named, rules)
