-- `texts::put_run`: the buffer is lent from the place on.
use borrow.Author.Rules.{rules}
use Rattle.bundle_jobs.proofs.Pieces.{run_put}
use Rattle.bundle_jobs.proofs.texts.put_run.Goals as goal

pub returns : goal.returns
returns c = search (run_put, rules)
