-- Three words, and the first is no slot's.
use Rattle.words.proofs.Grants.{pushed_try}
use borrow.Author.Rules.{rules}
use Rattle.words.proofs.grant_try.Goals as goal

pub returns : goal.returns
returns c = search (pushed_try, rules)
