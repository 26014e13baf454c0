use native.Mathlib.Omega.{arith}
use borrow.Author.Rules.{rules}
use Rattle.bundle_jobs.proofs.Turns.{turn-length, turn_end, row_room_lem, row_more, rows_end}
use Rattle.bundle_jobs.proofs.rows.put_rows.Goals as goal

pub put_row-at-requires : goal.put_row-at-requires
put_row-at-requires c = search (row_room_lem, rules)

pub overflow_add-from-in-loop-i : goal.overflow_add-from-in-loop-i
overflow_add-from-in-loop-i c =
    omega (arith, turn_end c.loop-i.invariant _ c.requires.0 c.loop-i-test.true)

pub loop-i-preserved : goal.loop-i-preserved
loop-i-preserved c = search (row_more, rules)

pub shape_of-out : goal.shape_of-out
shape_of-out c = search (turn-length, rules)

pub returns : goal.returns
returns c = search (rows_end, rules)
