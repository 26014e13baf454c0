-- 14 first, and else a question about what is fit.
use Rattle.points.proofs.Judged.{told-broken, told-unbroken}
use Rattle.points.proofs.point.Goals as goal

pub returns-then-is_broken : goal.returns-then-is_broken
returns-then-is_broken c =
    told-broken c.args.s _ c.args.w.grants.now c.args.me c.args.q _ c.is_broken.ensures c.if-is_broken.true

pub ask-requires : goal.ask-requires
ask-requires c = (c.is_broken.ensures.fit c.if-is_broken.false).shaped.head

pub returns : goal.returns
returns c =
    told-unbroken c.args.s _ c.args.w.grants.now c.args.me c.args.q _ c.is_broken.ensures _ c.if-is_broken.false c.ask.ensures
