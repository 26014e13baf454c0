-- Three words are written behind those of the earlier grants.
use Rattle.words.proofs.Grants.{pushed_slot}
use borrow.Author.Rules.{rules}
use Rattle.words.proofs.push_grant.Goals as goal

pub returns : goal.returns
returns c = search (pushed_slot, rules)
