-- Document 02, No. 2: the clocks that tasks start with where a script gives none.
use Rattle.std.specs.Prelude.{ℕ, zero, suc, ◌-◌, List, [], ◌∷◌, ◌++◌}
use Rattle.rules.specs.Clock.{Clock, tick, empty}

-- task 0's clock, and its children's in number order
pub record Family : Type 0 where
  pub parent : Clock
  pub children : List Clock

-- task 0 before it spawns: its clock has an entry for each of n tasks, and has not ticked
abbrev pub alone : ℕ → Family
alone n = record { parent = empty n; children = [] }

-- ticking once before each, each child starting with a copy of its clock then
abbrev pub spawn : Family → Family
spawn f = let c = tick 0 f.parent in record { parent = c; children = f.children ++ c ∷ [] }

-- task 0 spawned k of n tasks, in number order
unfoldable pub family : ℕ → ℕ → Family
family n zero = alone n
family n (suc k) = spawn (family n k)

-- clocks row by row
unfoldable pub rows_of : List Clock → List ℕ
rows_of [] = []
rows_of (c ∷ cs) = c ++ rows_of cs

-- task 0 spawned the rest
unfoldable pub spawned : ℕ → List ℕ
spawned n = let f = family n (n - 1) in rows_of (f.parent ∷ f.children)
