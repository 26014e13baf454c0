use borrow.Author.Rules.{rules}
use Rattle.broken.proofs.Tasks.{stray_start, stray_more}
use Rattle.broken.proofs.tasks_are_broken.Goals as goal

pub loop-t-init : goal.loop-t-init
loop-t-init c = stray_start c.args.tasks.now

pub loop-t-preserved : goal.loop-t-preserved
loop-t-preserved c = search (stray_more, rules)
