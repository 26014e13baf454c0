-- `text::digits_of`: the digits from the place reached on, behind those read, say what all of them say.
use Prim.Native.Nat.{◌≤◌}
use mathlib.Core.Path.{◌≡◌}
use lib.ListN.{drop}
use Rattle.rules.specs.Sizes.{largest}
use Rattle.text.specs.Reading.{number_from}
use Rattle.text.proofs.digits_of.Given as goal

abbrev pub invariant-loop-b : goal.invariant-loop-b
invariant-loop-b l = (l.n ≤ largest) × (number_from 0 l.field ≡ number_from l.n (drop l.b-index l.field))
