-- `texts::put_field`: a space, the digits.
use borrow.Author.Rules.{rules}
use Rattle.bundle_jobs.proofs.Pieces.{field_put}
use Rattle.bundle_jobs.proofs.texts.put_field.Goals as goal

pub returns : goal.returns
returns c = search (field_put, rules)
