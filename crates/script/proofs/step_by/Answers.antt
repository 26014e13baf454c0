-- `script::step_by`: the actor is named by its number.
use Rattle.script.proofs.step_by.Goals as goal

pub returns : goal.returns
returns c = rw (← c.named.ensures)
