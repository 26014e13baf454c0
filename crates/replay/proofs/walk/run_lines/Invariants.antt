-- `replay::walk::run_lines`: the script that is left.
use Rattle.std.proofs.Common.{◌-◌, length}
use Rattle.replay.proofs.walk.run_lines.Given as goal

abbrev pub decreases-loop-at : goal.decreases-loop-at
decreases-loop-at g l = length l.script - l.at
