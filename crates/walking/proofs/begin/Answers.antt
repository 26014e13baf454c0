-- `walking::begin`: a start, or none.
use Rattle.walking.proofs.Firsts.{begins-start}
use Rattle.walking.proofs.begin.Goals as goal

pub returns-in-Is : goal.returns-in-Is
returns-in-Is c = begins-start c.args.script.now c.in-Is.first c.in-Is.next _ _ c.begin_with.result c.in-Is.ensures c.begin_with.ensures
