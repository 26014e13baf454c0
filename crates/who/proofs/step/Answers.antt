-- Refused for its actor, or left to the act.
use Rattle.who.proofs.Stepping.{refused-actor, actor-passes}
use borrow.Author.Rules.{rules}
use Rattle.who.proofs.step.Goals as goal

pub carry_out-requires : goal.carry_out-requires
carry_out-requires c = search (actor-passes, rules)

pub returns-in-Err : goal.returns-in-Err
returns-in-Err c = search (refused-actor, rules)
