-- Of nothing, nothing; else the stock is more, and is scanned for or woken for.
use Rattle.doing.proofs.Released.{stands_so, releases_none, releases}
use native.Mathlib.Omega.{arith}
use borrow.Author.Rules.{rules}
use Rattle.doing.proofs.release.Goals as goal

pub returns-then-num_permits-eq0 : goal.returns-then-num_permits-eq0
returns-then-num_permits-eq0 c = search (releases_none, stands_so, rules)

pub overflow_add-more : goal.overflow_add-more
overflow_add-more c =
    let m = c.requires.3 in
    omega (arith, m (omega (arith, c.if-num_permits-eq0.false)))

pub returns : goal.returns
returns c = search (releases, rules)
