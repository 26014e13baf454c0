-- The lengths, the batches, then all else: one that says yes decides, and one that says no leaves the rest to decide.
use mathlib.Core.Path.{sym, ◌∙◌}
use Rattle.broken.proofs.Unbroken.{lengths_wrong, batches_wrong, who_decides}
use borrow.Author.Rules.{rules}
use Rattle.broken.proofs.is_broken.Goals as goal
use Rattle.broken.proofs.is_broken.Goals.{then-lengths_differ, else-lengths_differ}

pub returns-then-is_broken : goal.returns-then-is_broken
returns-then-is_broken c = search (lengths_wrong, batches_wrong, rules)

pub returns-else-is_broken : goal.returns-else-is_broken
returns-else-is_broken c =
    elim c.if-lengths_differ.branch [
      | then-lengths_differ w ↦ search rules
      | else-lengths_differ w ↦
          who_decides c.args.s _ _ _ c.lengths_differ.ensures w.if-lengths_differ.false _ w.is_broken.ensures _ (sym w.value-is ∙ c.if-is_broken.false) c.who_is_broken.ensures
    ]
