-- Two words of one task are written.
use mathlib.Core.Path.{refl, ◌∙◌}
use Rattle.words.proofs.Single.{mark_as, state-as}
use Rattle.words.proofs.Tasks.{put_past, put_there}
use borrow.Author.Rules.{rules}
use native.Mathlib.Omega.{arith}
use Rattle.words.proofs.put_task.Goals as goal

pub returns-then-count-t : goal.returns-then-count-t
returns-then-count-t c = search (put_past, rules)

pub returns : goal.returns
returns c =
    put_there _ _ _ _ _ (omega arith) (omega arith) (search rules) _ _ _ (state-as c.args.a.state) (c.from.ensures ∙ mark_as c.args.a.woken) refl
