-- `names::named`: the last part padded, or zeros where it is too long.
use borrow.Author.Rules.{rules}
use Rattle.bundle_jobs.proofs.LastParts.{name-long, name-made}
use Rattle.bundle_jobs.proofs.names.named.Goals as goal

pub returns-then-path-at-gt-NAME : goal.returns-then-path-at-gt-NAME
returns-then-path-at-gt-NAME c = search (name-long, rules)

pub returns : goal.returns
returns c = search (name-made, rules)
