-- `texts::put_heading`: `> `, the name, a line feed.
use borrow.Author.Rules.{rules}
use Rattle.bundle_jobs.proofs.Pieces.{heading_name, heading_end, heading_put}
use Rattle.bundle_jobs.proofs.texts.put_heading.Goals as goal

pub put_name-q-requires : goal.put_name-q-requires
put_name-q-requires c = search (heading_name, rules)

pub put-requires : goal.put-requires
put-requires c = search (heading_end, rules)

pub returns : goal.returns
returns c = search (heading_put, rules)
