use Rattle.bundle.proofs.Rows.{body_elsewhere, body-there, bodies-end}
use borrow.Author.Rules.{rules}
use Rattle.bundle.proofs.reading.in_order.Goals as goal

pub returns-then-from-end : goal.returns-then-from-end
returns-then-from-end c = search (body_elsewhere, rules)

pub loop-i-preserved : goal.loop-i-preserved
loop-i-preserved c = (search rules, search (body-there, rules))

pub returns : goal.returns
returns c = search (bodies-end, rules)
