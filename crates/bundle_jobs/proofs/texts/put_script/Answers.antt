-- `texts::put_script`: the heading, and what the body prints behind it.
use borrow.Author.Rules.{rules}
use Rattle.bundle_jobs.proofs.Pieces.{script_put}
use Rattle.bundle_jobs.proofs.texts.put_script.Goals as goal

pub returns : goal.returns
returns c = search (script_put, rules)
