-- Laws of scripts: the length that is read, a refused first line, and the end.
use Prim.Native.Nat.{ℕ, ◌≤◌, ◌<◌}
use native.Mathlib.Omega.{arith}
use mathlib.Core.Path.{◌≡◌}
use mathlib.Core.Bool.{true, or-true}
use mathlib.Core.List.{List, []}
use lib.ListN.{length, drop}
use borrow.Author.Tests.{lt-ltb, le-ltb}
use Rattle.rules.specs.Sizes.{max_tasks}
use Rattle.rules.specs.State.{State}
use Rattle.rules.specs.Fresh.{Start, refuses12}
use Rattle.rules.specs.Text.{bytes, lines}
use Rattle.rules.specs.Script.{end_line, trace, program, longest, printed}
use Rattle.rules.proofs.Parts.{no_line}

-- More than 65,536 bytes print only `long`; up to 65,536 are run.
pub long-printed : (s : List ℕ) → 65_536 < length s → printed s ≡ end_line (bytes "long")
unfolding printed
long-printed s h = rw (lt-ltb longest (length s) (omega (arith, h)))

pub short-printed : (s : List ℕ) → length s ≤ 65_536 → printed s ≡ program (lines s)
unfolding printed
short-printed s h = rw (le-ltb longest (length s) (omega (arith, h)))

-- More than 16 tasks are refused whatever the clocks.
pub many_tasks : (a : Start) → max_tasks < a.tasks → refuses12 a ≡ true
unfolding refuses12
many_tasks a h = rw (lt-ltb max_tasks a.tasks h, or-true)

-- Behind the last line nothing is printed.
pub trace_done : (b : State) (s : List ℕ) (at : ℕ) → length s ≤ at → trace b (lines (drop at s)) ≡ []
unfolding trace
trace_done b s at h = rw (no_line s at h)
