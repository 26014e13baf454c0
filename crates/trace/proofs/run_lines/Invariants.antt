-- `trace::run_lines`: the lines up to the place reached are printed, and those behind it are left.
use Prim.Native.Nat.{◌-◌}
use lib.ListN.{length}
use Rattle.state.specs.View.{words_of, view_of, Fit}
use Rattle.trace.specs.Running.{Onward}
use Rattle.trace.proofs.run_lines.Given as goal

abbrev pub invariant-loop-at : goal.invariant-loop-at
invariant-loop-at l =
    Onward l.script l.from (view_of l.initial.s (words_of l.initial.w)) l.initial.out l.start l.at (view_of l.s (words_of l.w)) l.out l.n
    × Fit l.s (words_of l.w) l.w.grants.now

abbrev pub decreases-loop-at : goal.decreases-loop-at
decreases-loop-at l = length l.script - l.at
