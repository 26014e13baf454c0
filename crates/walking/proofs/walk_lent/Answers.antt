-- `walking::walk_lent`: a step, or none.
use mathlib.Core.Path.{refl}
use Rattle.walking.proofs.Lines.{walked_step, walked_bad}
use Rattle.walking.proofs.walk_lent.Goals as goal

pub returns-clause-comes : goal.returns-clause-comes
returns-clause-comes c =
    let p = c.requires in
    walked_step c.read_line-l.ensures p.1 c.step_on-r.ensures.steps c.in-Some.is

pub returns-in_default-clause-comes : goal.returns-in_default-clause-comes
returns-in_default-clause-comes c =
    let p = c.requires in
    walked_bad c.read_line-l.ensures p.1 c.in_default.is refl refl
