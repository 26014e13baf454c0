-- The lowest from here on, and those passed, stay the lowest of all.
use Prim.Native.Nat.{◌+◌}
use mathlib.Core.Path.{◌≡◌}
use lib.ListN.{drop}
use Rattle.splitting.specs.Who.{lowest_free}
use Rattle.words.specs.View.{slots_of}
use Rattle.words.proofs.lowest_free.Given as goal

abbrev pub invariant-loop-i : goal.invariant-loop-i
invariant-loop-i l = l.i + lowest_free (drop l.i (slots_of l.slots)) ≡ lowest_free (slots_of l.slots)
