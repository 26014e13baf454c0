-- `rows::put_rows`: the lines of i rows are written, and those behind them are left.
use Rattle.bundle_jobs.specs.Printed.{rows_text}
use Rattle.bundle_jobs.proofs.Turns.{Turn}
use Rattle.bundle_jobs.proofs.rows.put_rows.Given as goal

abbrev pub invariant-loop-i : goal.invariant-loop-i
invariant-loop-i l = Turn rows_text l.contents.names l.contents.lengths l.contents.count l.initial.out l.i l.from l.out l.at
