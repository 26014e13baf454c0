-- `bundle::put_bundle`: count, rows and bodies, one behind the other.
use borrow.Author.Rules.{rules}
use Rattle.bundle.proofs.Putting.{bundle_put}
use Rattle.bundle.proofs.writing.put_bundle.Goals as goal

pub returns : goal.returns
returns c = search (bundle_put, rules)
