-- The last taking's clock is read and joined.
use Rattle.times.proofs.Actor.{failed}
use borrow.Author.Rules.{rules}
use Rattle.times.proofs.fail_try.Goals as goal

pub returns : goal.returns
returns c = λ b sizes rows makers. search (failed, rules)
