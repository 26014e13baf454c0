-- By fairness.
use mathlib.Core.Path.{sym, ap, ◌∙◌}
use mathlib.Core.Bool.{Bool}
use Rattle.rules.specs.Steps.{upgrade_ask}
use Rattle.records.proofs.upgrade_ask.Goals as goal

pub returns-then-strictly_fair : goal.returns-then-strictly_fair
returns-then-strictly_fair c = c.plain_ask.ensures ∙ ap (λ (b : Bool). upgrade_ask b c.args.num_permits) (sym c.if-strictly_fair.true)

pub returns : goal.returns
returns c = c.reserving_ask.ensures ∙ ap (λ (b : Bool). upgrade_ask b c.args.num_permits) (sym c.if-strictly_fair.false)
