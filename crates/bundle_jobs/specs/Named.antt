-- The name of a file in a bundle.
use Rattle.std.specs.Prelude.{ℕ, ◌-◌, cond, List, [], ◌∷◌, ◌++◌, leb, length, replicate}
use Prim.Native.Char.{code}
use Rattle.rules.specs.Text.{parts}
use Rattle.bundle_rules.specs.Bundled.{name_length}

unfoldable pub last_of : List (List ℕ) → List ℕ
last_of [] = []
last_of (p ∷ []) = p
last_of (p ∷ q ∷ ps) = last_of (q ∷ ps)

-- the last part of a path
abbrev pub last_part : List ℕ → List ℕ
last_part path = last_of (parts (code "/") path)

abbrev pub zero_bytes : ℕ → List ℕ
zero_bytes n = replicate n 0

-- padded with zero bytes to 16; one that is longer has no name, and so meets 22
abbrev pub name_for : List ℕ → List ℕ
name_for path = let p = last_part path in cond (leb (length p) name_length) (p ++ zero_bytes (name_length - length p)) (zero_bytes name_length)
