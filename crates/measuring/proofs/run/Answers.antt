-- `measuring::run`: refused or accepted, a start gives what every step may count on.
use Rattle.std.proofs.Common.{rules}
use Rattle.fresh.proofs.Starts.{started_fit}
use Rattle.measuring.proofs.run.Goals as goal

pub run_on-requires : goal.run_on-requires
run_on-requires g c = rw c.state_of-state.ensures (search (started_fit, rules))
