-- Document 01, "State": clocks (Fidge and Mattern), of any width, one entry for each task.
use Rattle.std.specs.Prelude.{ℕ, ◌+◌, max, List, [], ◌∷◌, get_or, set, replicate}

abbrev pub Clock : Type 0
Clock = List ℕ

-- joining takes the larger of each entry
unfoldable pub join : Clock → Clock → Clock
join [] d = []
join (x ∷ c) [] = x ∷ c
join (x ∷ c) (y ∷ d) = max x y ∷ join c d

-- ticking adds 1 to a task's own entry
unfoldable pub tick : ℕ → Clock → Clock
tick i c = set c i (get_or c i 0 + 1)

-- the empty clock of a width
unfoldable pub empty : ℕ → Clock
empty w = replicate w 0
