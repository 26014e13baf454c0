-- `measuring::run_on`: what every step may count on holds from step to step.
use Rattle.state.specs.View.{words_of, Fit}
use Rattle.measuring.proofs.run_on.Given as goal

abbrev pub invariant-loop-record : goal.invariant-loop-record
invariant-loop-record g l = Fit l.s (words_of l.w) l.w.grants.now
