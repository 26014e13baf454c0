-- `bundle::put_rows`: whoever puts the rows that are left has put all.
use Rattle.bundle.proofs.Putting.{Putting}
use Rattle.bundle.proofs.writing.put_rows.Given as goal

abbrev pub invariant-loop-i : goal.invariant-loop-i
invariant-loop-i l = Putting l.initial.out l.contents.names l.contents.lengths l.contents.count l.out l.at l.offset l.i
