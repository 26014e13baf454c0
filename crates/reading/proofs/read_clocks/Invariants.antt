-- `reading::read_clocks`: the numbers up to the place reached are read, and those behind it are left.
use lib.ListN.{length, drop}
use Rattle.rules.specs.Text.{fields}
use Rattle.reading.proofs.Numbers.{Along}
use Rattle.reading.proofs.read_clocks.Given as goal

abbrev pub invariant-loop-x : goal.invariant-loop-x
invariant-loop-x l = Along l.line l.from l.starts l.at l.n

abbrev pub decreases-loop-x : goal.decreases-loop-x
decreases-loop-x l = length (fields (drop l.at l.line))
