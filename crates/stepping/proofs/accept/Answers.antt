-- At rest the times alone are left to do; else the step is carried out, on words that are as they were.
use Rattle.stepping.proofs.Accepted.{slot-there, may_rest, rest_taken, still-moves, still_due, still_taken}
use Rattle.stepping.proofs.accept.Goals as goal

pub effect_at_rest-requires : goal.effect_at_rest-requires
effect_at_rest-requires c =
    let due = c.requires in
    let h = due.fit.shaped.head in
    (h.slot-words, h.tasks, h.task-words, slot-there _ _ _ _ _ due)

pub carry_out-requires : goal.carry_out-requires
carry_out-requires c =
    let due = c.requires in
    let by = c.effect_at_rest.ensures in
    (still_due _ _ _ _ _ due _ _ _ by c.in-None.is, still-moves _ _ _ _ _ due _ _ _ by c.in-None.is)

pub rest-requires : goal.rest-requires
rest-requires c =
    let due = c.requires in
    let h = due.fit.shaped in
    (h.latest, h.makers, h.clocks, may_rest _ _ _ _ _ due _ _ _ c.effect_at_rest.ensures _ c.in-Some.is)

pub returns-in-None-clause-taken : goal.returns-in-None-clause-taken
returns-in-None-clause-taken c =
    still_taken _ _ _ _ _ c.requires _ _ _ c.effect_at_rest.ensures c.in-None.is _ _ _ c.carry_out.ensures.taken

pub returns-in-Some-clause-taken : goal.returns-in-Some-clause-taken
returns-in-Some-clause-taken c =
    rest_taken _ _ _ _ _ c.requires _ _ _ c.effect_at_rest.ensures _ c.in-Some.is _ _ _ c.rest.ensures c.rest.auto.makers c.rest.auto.clocks
