-- By the act.
use Rattle.splitting.specs.Who.{grounds}
use Rattle.choosing.specs.Choice.{choice_of}
use Rattle.planning.proofs.Planning.{of_act, of_try_upgrade}
use borrow.Author.Rules.{rules}
use Rattle.planning.proofs.plan_act.Goals as goal

pub returns-in-Acquire : goal.returns-in-Acquire
unfolding grounds choice_of
returns-in-Acquire c = search (of_act, rules)

pub returns-in-AcquireBypassable : goal.returns-in-AcquireBypassable
unfolding grounds choice_of
returns-in-AcquireBypassable c = search (of_act, rules)

pub returns-in-Try : goal.returns-in-Try
unfolding choice_of
returns-in-Try c = search (of_act, c.plan_try.ensures, c.check_try.ensures, rules)

pub returns-in-TryUpgrade : goal.returns-in-TryUpgrade
returns-in-TryUpgrade c = search (of_try_upgrade, c.plan_try-in-TryUpgrade.ensures, c.check_try_upgrade.ensures, rules)

pub returns-in-Release : goal.returns-in-Release
returns-in-Release c = search (of_act, c.plan_release.ensures, rules)

pub returns-in-Close : goal.returns-in-Close
unfolding grounds choice_of
returns-in-Close c = search (of_act, rules)

pub returns-in-Sleep : goal.returns-in-Sleep
unfolding grounds choice_of
returns-in-Sleep c = search (of_act, rules)

pub returns-in-Finish : goal.returns-in-Finish
unfolding grounds choice_of
returns-in-Finish c = search (of_act, rules)
