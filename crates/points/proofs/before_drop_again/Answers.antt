-- By the request that was read.
use borrow.Author.Rules.{rules}
use mathlib.Core.Path.{◌∙◌}
use Rattle.points.proofs.Asking.{drop_again_read}
use Rattle.points.proofs.before_drop_again.Goals as goal

pub returns-then-r : goal.returns-then-r
returns-then-r c = λ ss ts e. (search rules) ∙ drop_again_read c.args.h c.args.x c.args.r ss ts e _ (c.waits.ensures ss ts e)

pub returns-else-r : goal.returns-else-r
returns-else-r c = λ ss ts e. (search rules) ∙ drop_again_read c.args.h c.args.x c.args.r ss ts e _ (c.waits.ensures ss ts e)
