use borrow.Author.Rules.{rules}
use Rattle.bundle_jobs.proofs.LastParts.{part_on, part_last}
use Rattle.bundle_jobs.proofs.names.last_part.Goals as goal

pub loop-e-preserved : goal.loop-e-preserved
loop-e-preserved c = search (part_on, rules)

pub returns : goal.returns
returns c = search (part_last, rules)
