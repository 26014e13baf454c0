-- `reading::judged`: 22, then 23, then what the rows say.
use mathlib.Core.Path.{ap}
use mathlib.Core.Bool.{not}
use Rattle.bundle.proofs.Judging.{name-refused, bodies-refused, accepted}
use borrow.Author.Rules.{rules}
use Rattle.bundle.proofs.reading.judged.Goals as goal

pub returns-then-not-well_named : goal.returns-then-not-well_named
returns-then-not-well_named c = search (name-refused, rules)

pub returns-then-not-well_placed : goal.returns-then-not-well_placed
returns-then-not-well_placed c = search (bodies-refused, rules)

pub returns : goal.returns
returns c =
    accepted c.args.s.now c.args.n c.args.more c.requires _ c.well_named.result c.read_names.ensures
    c.well_named.ensures c.well_placed.result c.well_placed.ensures _ (ap not c.if-not-well_named.false) (ap not c.if-not-well_placed.false)
    c.read_lengths.ensures
