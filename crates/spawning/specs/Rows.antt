-- Clocks row by row in lent words.
use Rattle.std.specs.Prelude.{ℕ, suc, ◌*◌, ◌-◌, cond, List, ◌∷◌, ◌++◌, leb, replicate}
use Rattle.rules.specs.Sizes.{max_tasks}
use Rattle.rules.specs.Spawning.{family, rows_of, spawned}

-- task 0 spawned k of n tasks: its clock and its children's, and zeros where no task is yet
unfoldable pub rows_after : ℕ → ℕ → List ℕ
rows_after n k = let f = family n k in rows_of (f.parent ∷ f.children) ++ replicate (256 - suc k * n) 0

-- the clocks of n tasks, and zeros behind them; zeros alone where 12 refuses so many tasks whatever their clocks
unfoldable pub spawned_in : ℕ → List ℕ
spawned_in n = cond (leb n max_tasks) (spawned n ++ replicate (256 - n * n) 0) (replicate 256 0)
