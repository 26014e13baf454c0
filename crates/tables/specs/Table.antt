-- Rows of a flat list, and tables of what stands in them.
use Rattle.std.specs.Prelude.{ℕ, zero, suc, ◌*◌, List, [], ◌∷◌, take, drop}

-- row p of a flat table with w entries to a row
abbrev pub row : ℕ → List ℕ → ℕ → List ℕ
row w xs p = take w (drop (p * w) xs)

-- n entries of a table from the one numbered i on
unfoldable pub table : {A : Type 0} → (ℕ → A) → ℕ → ℕ → List A
table f i zero = []
table f i (suc n) = f i ∷ table f (suc i) n
