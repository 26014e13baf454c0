use Rattle.broken.proofs.Weights.{none_more}
use borrow.Author.Rules.{rules}
use Rattle.broken.proofs.more_weight.Goals as goal

pub returns : goal.returns
returns c =
    let a = c.args in
    none_more _ _ _ (c.any_used.ensures c.if-any_used.false a.tasks a.fair a.seen.now) (search rules)
