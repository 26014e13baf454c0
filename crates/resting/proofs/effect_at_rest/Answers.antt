-- One answer for each choice.
use Rattle.resting.proofs.Rested.{slot-there, by_slots, by_poll, by_try, by_drop, by_tasks, by_moves, sleeps_so, finishes_so}
use borrow.Author.Rules.{rules}
use Rattle.resting.proofs.effect_at_rest.Goals as goal

pub make-requires : goal.make-requires
make-requires c = search (slot-there, rules)

pub returns-in-Makes : goal.returns-in-Makes
returns-in-Makes c = search (by_slots, rules)

pub returns-in-Polls : goal.returns-in-Polls
returns-in-Polls c = search (by_poll, rules)

pub returns-in-Tries : goal.returns-in-Tries
returns-in-Tries c = search (by_try, rules)

pub returns-in-Releases : goal.returns-in-Releases
returns-in-Releases c = search (by_moves, rules)

pub returns-in-Drops : goal.returns-in-Drops
returns-in-Drops c = search (by_drop, rules)

pub returns-in-Sleeps : goal.returns-in-Sleeps
returns-in-Sleeps c =
    by_tasks _ _ _ _ _ _ _ _ c.in-Sleeps.is (sleeps_so _ _ _ _ _ _ c.alter.auto.tasks c.alter.ensures (λ a b p. search rules))

pub returns-in-Finishes : goal.returns-in-Finishes
returns-in-Finishes c =
    by_tasks _ _ _ _ _ _ _ _ c.in-Finishes.is (finishes_so _ _ _ _ _ _ c.alter-in-Finishes.auto.tasks c.alter-in-Finishes.ensures (λ a b p. search rules))
