-- Refused by the act, or carried out.
use Rattle.who.proofs.Stepping.{refused_act, passes-slot, passes_able, carried}
use borrow.Author.Rules.{rules}
use Rattle.who.proofs.carry_out.Goals as goal

pub effect-requires : goal.effect-requires
effect-requires c = (
  c.requires.0.shaped,
  search rules,
  passes-slot c.args.h _ _ c.requires.0 c.args.me c.args.act _ c.requires.2 c.plan_act-plan.ensures c.in-Ok.is,
  passes_able c.args.h _ _ c.requires.0 c.args.me c.args.act _ c.requires.2 c.plan_act-plan.ensures c.in-Ok.is,
)

pub returns-in-Err : goal.returns-in-Err
returns-in-Err c = search (refused_act, rules)

pub returns-in-Ok : goal.returns-in-Ok
returns-in-Ok c = search (carried, rules)
