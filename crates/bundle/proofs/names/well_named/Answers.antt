use Rattle.bundle.proofs.Naming.{bad-name, good_name, good_names}
use borrow.Author.Rules.{rules}
use Rattle.bundle.proofs.names.well_named.Goals as goal

pub returns-then-not-well_made : goal.returns-then-not-well_made
returns-then-not-well_made c = search (bad-name, rules)

pub loop-i-preserved : goal.loop-i-preserved
loop-i-preserved c = search (good_name, rules)

pub returns : goal.returns
returns c = search (good_names, rules)
