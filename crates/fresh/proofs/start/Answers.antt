-- Refused, or begun.
use borrow.Author.Rules.{rules}
use Rattle.rules.specs.Fresh.{Start}
use Rattle.fresh.proofs.Starting.{refused_so, accepted_so, few, square, below}
use Rattle.fresh.proofs.start.Goals as goal

pub returns-then-is_refused : goal.returns-then-is_refused
returns-then-is_refused c =
    refused_so _ _ c.is_refused.ensures _ _ c.if-is_refused.true c.refuse.ensures

pub begin-state-requires : goal.begin-state-requires
begin-state-requires c =
    let a = c.args in
    let asked : Start = record { fairness = a.fairness; stock = a.stock; tasks = a.count; clocks = a.starts.now; maker = a.maker } in
    let e = c.is_refused.ensures in
    let h = c.if-is_refused.false in
    (few asked _ e h, square asked _ e h, λ t m. below asked _ e t m h, record { slots = search rules; tasks = search rules; ring = record { places = search rules; entries = search rules }; last = search rules; makers = search rules; clocks = search rules })

pub returns : goal.returns
returns c =
    accepted_so _ _ c.is_refused.ensures _ _ c.if-is_refused.false c.begin-state.ensures
