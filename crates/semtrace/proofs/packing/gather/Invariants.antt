-- `packing::gather`: the bodies stay within their buffer.
use Rattle.std.proofs.Common.{◌≤◌, length}
use Rattle.semtrace.proofs.packing.gather.Given as goal

abbrev pub invariant-loop-i : goal.invariant-loop-i
invariant-loop-i l = l.at ≤ length l.bodies
