-- Numbers in bytes, lowest byte first.
use Rattle.std.specs.Prelude.{ℕ, zero, suc, ◌+◌, ◌*◌, ◌/◌, ◌%◌, ◌<◌, ◌≡◌, List, [], ◌∷◌, get_or, take, drop}

-- the w bytes of a number
unfoldable pub bytes_of : ℕ → ℕ → List ℕ
bytes_of zero n = []
bytes_of (suc w) n = n % 256 ∷ bytes_of w (n / 256)

-- the number that bytes say
unfoldable pub value_of : List ℕ → ℕ
value_of [] = 0
value_of (b ∷ bs) = b + 256 * value_of bs

-- a number has four bytes
abbrev pub number_length : ℕ
number_length = 4

-- each is a byte, as in any lent slice of them
abbrev pub Bytes : List ℕ → Type 0
Bytes s = (i : ℕ) → get_or s i 0 < 256

-- the number at a place of some bytes
pub record NumberAt (s : List ℕ) (at r : ℕ) : Type 0 where
  pub value : r ≡ value_of (take number_length (drop at s))
  pub bytes : Bytes s
