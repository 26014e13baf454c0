-- What the printers write, as the rules see it.
use Rattle.std.specs.Prelude.{ℕ, ◌≡◌, List, [], ◌∷◌, ◌++◌, map, length, drop}
use Rattle.rules.specs.declared.Grant.{Grant}
use Rattle.rules.specs.Steps.{Answer}
use Rattle.rules.specs.Text.{space, comma, joined_by, digits}
use Rattle.rules.specs.Script.{answer_text, closed_text, taker_text, grants_text, end_line}
use Rattle.splitting.specs.Plain.{Plain, available as available_of}
use Rattle.printing.specs.declared.Counts.{Counts}

-- what a line shows of a state, which has no clock in it
pub record ShownBy (c : Counts) (s : Plain) : Type 0 where
  pub available : c.available ≡ available_of s
  pub stock : c.stock ≡ s.stock
  pub closed : c.closed ≡ s.closed
  pub queued : c.queued ≡ length s.queue

-- the takers of some grants, joined by commas
abbrev pub takers_text : List Grant → List ℕ
takers_text gs = joined_by comma (map (λ (g : Grant). taker_text g.taker) gs)

-- a comma before each, and the same but for the first
unfoldable pub each_behind_comma : List Grant → List ℕ
each_behind_comma [] = []
each_behind_comma (g ∷ gs) = comma ∷ taker_text g.taker ++ each_behind_comma gs

abbrev pub rest_text : List Grant → List ℕ
rest_text gs = each_behind_comma (drop 1 gs)

-- available, stock, closed 0 or 1 and queue length, a space behind each
abbrev pub counts_text : Counts → List ℕ
counts_text c =
    digits c.available ++ space ∷ [] ++ (digits c.stock ++ space ∷ []) ++ (closed_text c.closed ++ space ∷ []) ++ (digits c.queued ++ space ∷ [])

-- the whole line
abbrev pub line_text : Answer → Counts → List Grant → List ℕ
line_text a c gs =
    end_line
    (joined_by space
    (answer_text a
    ∷ digits c.available
    ∷ digits c.stock
    ∷ closed_text c.closed
    ∷ digits c.queued
    ∷ grants_text gs
    ∷ []))
