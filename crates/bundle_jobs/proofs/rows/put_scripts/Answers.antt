use native.Mathlib.Omega.{arith}
use borrow.Author.Rules.{rules}
use Rattle.bundle_jobs.proofs.Turns.{turn_end, script_fits, script_more, scripts_length, scripts_end}
use Rattle.bundle_jobs.proofs.rows.put_scripts.Goals as goal

pub overflow_cast-size : goal.overflow_cast-size
overflow_cast-size c =
    omega (arith, turn_end c.loop-i.invariant _ c.requires.0 c.loop-i-test.true)

pub part-body-requires : goal.part-body-requires
part-body-requires c = search (turn_end, rules)

pub put_script-at-requires : goal.put_script-at-requires
put_script-at-requires c = search (script_fits, rules)

pub overflow_add-from-in-loop-i : goal.overflow_add-from-in-loop-i
overflow_add-from-in-loop-i c =
    omega (arith, turn_end c.loop-i.invariant _ c.requires.0 c.loop-i-test.true)

pub loop-i-preserved : goal.loop-i-preserved
loop-i-preserved c = search (script_more, rules)

pub shape_of-out : goal.shape_of-out
shape_of-out c = search (scripts_length, rules)

pub returns : goal.returns
returns c = search (scripts_end, rules)
