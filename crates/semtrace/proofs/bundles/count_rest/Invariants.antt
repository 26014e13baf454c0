-- `bundles::count_rest`: it ends, since some bytes are counted at each turn.
use Rattle.std.proofs.Common.{◌-◌}
use Rattle.semtrace.proofs.bundles.count_rest.Given as goal

abbrev pub decreases-loop-more : goal.decreases-loop-more
decreases-loop-more l = 103079215084 - l.more
