-- By the request that was read.
use borrow.Author.Rules.{rules}
use mathlib.Core.Path.{refl, ◌∙◌}
use Rattle.points.proofs.Asking.{poll_read}
use Rattle.points.proofs.before_poll.Goals as goal

pub returns-then-h : goal.returns-then-h
returns-then-h c = λ x ss ts e. (search rules) ∙ poll_read c.args.h x c.args.r ss ts e _ refl

pub returns-else-h : goal.returns-else-h
returns-else-h c = λ x ss ts e. (search rules) ∙ poll_read c.args.h x c.args.r ss ts e _ c.available_permits.ensures

pub returns-else-not-r : goal.returns-else-not-r
returns-else-not-r c = λ x ss ts e. (search rules) ∙ poll_read c.args.h x c.args.r ss ts e _ refl
