-- The request itself where it is in use; else none.
use Rattle.records.proofs.Standing.{stands-used, stands-free}
use Rattle.records.proofs.Request.used_or_none.Goals as goal

pub returns-then-self : goal.returns-then-self
returns-then-self c = stands-used _ c.if-self.true

pub returns : goal.returns
returns c = stands-free _ _ c.if-self.false c.none.ensures
