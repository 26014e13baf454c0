-- `rows::part`: a part, by its place and its size.
use borrow.Author.Rules.{rules}
use Rattle.bundle_jobs.proofs.Turns.{part_is}
use Rattle.bundle_jobs.proofs.rows.part.Goals as goal

pub returns : goal.returns
returns c = search (part_is, rules)
