-- `rows::put_scripts`: i scripts are run, and those behind them are left.
use Rattle.bundle_jobs.specs.Placing.{scripts_at}
use Rattle.bundle_jobs.proofs.Turns.{Turn}
use Rattle.bundle_jobs.proofs.rows.put_scripts.Given as goal

abbrev pub invariant-loop-i : goal.invariant-loop-i
invariant-loop-i l = Turn (scripts_at l.bundle) l.contents.names l.contents.lengths l.contents.count l.initial.out l.i l.from l.out l.at
