-- Nothing, or a tick and a batch.
use native.Mathlib.Omega.{arith}
use Rattle.times.proofs.Actor.{given_none, given_some}
use borrow.Author.Rules.{rules}
use Rattle.times.proofs.give_back.Goals as goal

pub returns-then-n-eq0 : goal.returns-then-n-eq0
returns-then-n-eq0 c = λ last makers. search (given_none, rules)

pub tick_task-mine-requires : goal.tick_task-mine-requires
tick_task-mine-requires c = (c.requires.2, c.requires.3 (omega arith))

pub add-requires : goal.add-requires
add-requires c =
    (c.requires.0, c.requires.1, c.requires.4 (omega arith))

pub returns : goal.returns
returns c =
    let a = c.args in
    λ last makers. given_some a.b a.sizes.now a.rows.now last makers a.clocks.now a.stock a.me a.n _ _ _ _ _ c.if-n-eq0.false (c.requires.3 (omega arith)).task c.tick_task-mine.ensures c.add.ensures
