-- Document 01, "The script program": bytes as lines, fields and decimal numbers.
use Rattle.std.specs.Prelude.{ℕ, zero, suc, ◌+◌, ◌*◌, ◌-◌, ◌/◌, ◌%◌, Bool, true, false, cond, not, ◌&&◌, List, [], ◌∷◌, ◌++◌, eqb, leb, ltb, Option, None, Some}
use Prim.Native.Char.{code}
use Prim.Native.String.{String, [] as empty_text, ◌∷◌ as ◌∷ᵗ◌}
use Rattle.rules.specs.Sizes.{largest}

-- the bytes of a text in ASCII
abbrev pub bytes : String → List ℕ
bytes empty_text = []
bytes (c ∷ᵗ s) = code c ∷ bytes s

abbrev pub space : ℕ
space = code " "

abbrev pub line_feed : ℕ
line_feed = code "\n"

abbrev pub comma : ℕ
comma = code ","

unfoldable pub same : List ℕ → List ℕ → Bool
same [] [] = true
same [] (y ∷ ys) = false
same (x ∷ xs) [] = false
same (x ∷ xs) (y ∷ ys) = eqb x y && same xs ys

-- whether some bytes are those of a text
infix 60 ◌is◌
abbrev pub ◌is◌ : List ℕ → String → Bool
f is t = same f (bytes t)

-- Parts.

-- a byte in front of the first part
abbrev pub on_first : ℕ → List (List ℕ) → List (List ℕ)
on_first c [] = (c ∷ []) ∷ []
on_first c (p ∷ ps) = (c ∷ p) ∷ ps

-- what stands before, between and behind the bytes b: one part more than there are such bytes
unfoldable pub parts : ℕ → List ℕ → List (List ℕ)
parts b [] = [] ∷ []
parts b (c ∷ cs) = cond (eqb c b) ([] ∷ parts b cs) (on_first c (parts b cs))

-- the first part: what stands before the first b, or all where there is none
unfoldable pub before : ℕ → List ℕ → List ℕ
before b [] = []
before b (c ∷ cs) = cond (eqb c b) [] (c ∷ before b cs)

-- some parts with one b between them
unfoldable pub joined_by : ℕ → List (List ℕ) → List ℕ
joined_by b [] = []
joined_by b (p ∷ []) = p
joined_by b (p ∷ q ∷ ps) = p ++ b ∷ joined_by b (q ∷ ps)

-- the fields of a line: one space between
abbrev pub fields : List ℕ → List (List ℕ)
fields line = parts space line

-- a line without its line feed, and whether a line feed ended it
pub record Line : Type 0 where
  pub content : List ℕ
  pub ended : Bool

-- what follows the last line feed is an unended line if it is not empty
abbrev pub last_line : List ℕ → List Line
last_line [] = []
last_line (c ∷ cs) = record { content = c ∷ cs; ended = false } ∷ []

unfoldable pub lines_of : List (List ℕ) → List Line
lines_of [] = []
lines_of (p ∷ []) = last_line p
lines_of (p ∷ q ∷ ps) = record { content = p; ended = true } ∷ lines_of (q ∷ ps)

-- the lines of a script: line feed at the end
abbrev pub lines : List ℕ → List Line
lines s = lines_of (parts line_feed s)

-- Numbers.

abbrev pub is_digit : ℕ → Bool
is_digit c = leb (code "0") c && leb c (code "9")

unfoldable pub all_digits : List ℕ → Bool
all_digits [] = true
all_digits (c ∷ cs) = is_digit c && all_digits cs

-- not empty, and without leading zeros
unfoldable pub no_leading_zero : List ℕ → Bool
no_leading_zero [] = false
no_leading_zero (c ∷ []) = true
no_leading_zero (c ∷ d ∷ cs) = not (eqb c (code "0"))

-- the number that digits say, behind those that say n
unfoldable pub value_from : ℕ → List ℕ → ℕ
value_from n [] = n
value_from n (c ∷ cs) = value_from (n * 10 + (c - code "0")) cs

-- the number that a field says: decimal up to 4,294,967,295 without leading zeros
unfoldable pub number_of : List ℕ → Option ℕ
number_of f = cond (no_leading_zero f && all_digits f && leb (value_from 0 f) largest) (Some (value_from 0 f)) None

-- the last k digits, or all where there are fewer: a tenth's digits, and behind them the last
unfoldable pub last_digits : ℕ → ℕ → List ℕ
last_digits zero n = []
last_digits (suc k) n =
    elim (ltb n 10) [ true ↦ (code "0" + n) ∷ [] | false ↦ last_digits k (n / 10) ++ (code "0" + n % 10) ∷ [] ]

-- the digits of a number: it has no more of them than itself and one
unfoldable pub digits : ℕ → List ℕ
digits n = last_digits (suc n) n
