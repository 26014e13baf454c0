-- `trace::run_fresh`: the first line, and the others behind it.
use native.Mathlib.Omega.{arith}
use Rattle.trace.proofs.Firsts.{fresh-line, fresh-room, fresh-printed}
use Rattle.trace.proofs.run_fresh.Goals as goal

pub print_step-n-requires : goal.print_step-n-requires
print_step-n-requires c =
    (omega arith, c.requires.1.grants, fresh-line c.args.script.now c.args.from c.args.out.now c.requires.1 c.requires.0)

pub run_lines-requires : goal.run_lines-requires
run_lines-requires c =
    (fresh-room c.args.script.now c.args.from c.args.out.now c.requires.1 c.requires.0 c.print_step-n.ensures, c.requires.1)

pub returns : goal.returns
returns c =
    fresh-printed c.args.script.now c.args.from c.args.out.now c.requires.1 c.requires.0 c.print_step-n.ensures c.run_lines.ensures
