-- Three words are stored, one after another.
use native.Mathlib.Omega.{arith}
use lib.ListN.{length-set}
use Rattle.words.proofs.put_grant.Goals as goal

pub bounds-grants-b-2 : goal.bounds-grants-b-2
bounds-grants-b-2 c = simp length-set (omega arith)

pub bounds-grants-b-3 : goal.bounds-grants-b-3
bounds-grants-b-3 c = simp length-set (omega arith)
