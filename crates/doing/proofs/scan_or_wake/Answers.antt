-- By fairness.
use Rattle.doing.proofs.Released.{ungranted_so, scans, wakes}
use borrow.Author.Rules.{rules}
use Rattle.doing.proofs.scan_or_wake.Goals as goal

pub returns-then-strictly_fair : goal.returns-then-strictly_fair
returns-then-strictly_fair c = search (scans, rules)

pub returns : goal.returns
returns c = search (wakes, ungranted_so, rules)
