-- An empty ring, and one batch in it unless it is of nothing.
use borrow.Author.Rules.{rules}
use Rattle.batches.specs.View.{ring}
use Rattle.batches.proofs.First.{first-none, first_pushed}
use Rattle.batches.proofs.PermitClocks.first.Goals as goal

pub returns-then-size-eq0 : goal.returns-then-size-eq0
unfolding ring
returns-then-size-eq0 c = record { range = search rules; view = first-none _ _ c.if-size-eq0.true }

pub returns : goal.returns
returns c = search (first_pushed, c.if-size-eq0.false, rules)
