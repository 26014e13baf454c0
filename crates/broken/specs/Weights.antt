-- Row 14 for the queue and the slots, as the code decides it. A free slot weighs nothing; a request that is as it must be, one where the queue
-- names it and else nothing; all else weighs more than a queue can be long. So all is well exactly where the slots together weigh as much as
-- the queue is long: a slot that it names twice, a free one and one beyond the slots are missing.
use Rattle.std.specs.Prelude.{ℕ, zero, suc, ◌+◌, ◌*◌, ◌≤◌, ◌<◌, ◌≡◌, Bool, false, cond, not, ◌&&◌, ◌||◌, List, leb, ltb, eqb, get_or, None, is_some}
use Rattle.rules.specs.declared.Slot.{Slot}
use Rattle.rules.specs.Sizes.{slot_count}
use Rattle.rules.specs.Refusals.{bad_reserving}
use Rattle.rules.specs.Broken.{any_of, member, twice, every_slot}
use Rattle.splitting.specs.Broken.{misfits}
use Rattle.tables.specs.Table.{row}
use Rattle.words.specs.View.{marked, request_words, slots_of, row_stands}

-- the words from b on
abbrev pub words_at : List ℕ → ℕ → ℕ → ℕ
words_at w b j = get_or w (b + j) 0

-- a kind or a mark that stands for nothing, or an ask that 6 or 7 would have refused
abbrev pub ask_wrong : Bool → (ℕ → ℕ) → Bool
ask_wrong fair w = ltb 2 (w 3) || ltb 1 (w 4) || (marked (w 4) && (fair || bad_reserving (w 2) (w 1)))

-- named by the queue, and asking for nothing, not marked so, holding, completed, or of none of n tasks
abbrev pub named_wrong : ℕ → (ℕ → ℕ) → Bool
named_wrong n w = eqb (w 1) 0 || not (eqb (w 6) 1) || marked (w 7) || marked (w 8) || leb n (w 5)

-- not named by the queue, and marked so; or a mark that stands for nothing
abbrev pub other_wrong : (ℕ → ℕ) → Bool
other_wrong w = marked (w 6) || ltb 1 (w 7) || ltb 1 (w 8)

-- a request in use
abbrev pub request_wrong : ℕ → Bool → Bool → (ℕ → ℕ) → Bool
request_wrong n fair named w = ask_wrong fair w || ltb 1 (w 9) || cond named (named_wrong n w) (other_wrong w)

-- more than a queue can be long
abbrev pub heavy : ℕ
heavy = 33

unfoldable pub weight_of : ℕ → Bool → Bool → (ℕ → ℕ) → ℕ
weight_of n fair named w = cond (eqb (w 0) 1) (cond (request_wrong n fair named w) heavy (cond named 1 0)) (heavy * w 0)

-- of the slot numbered k, by whether the queue names it
abbrev pub weights : ℕ → Bool → List Bool → List ℕ → ℕ → ℕ
weights n fair seen w k = weight_of n fair (get_or seen k false) (words_at w (k * request_words))

-- the sum over n numbers from i on
unfoldable pub sum_from : (ℕ → ℕ) → ℕ → ℕ → ℕ
sum_from f zero i = 0
sum_from f (suc n) i = f i + sum_from f n (suc i)

-- for each slot, whether the queue names it
abbrev pub Marks : List Bool → List Slot → Type 0
Marks seen q = (k : ℕ) → k < slot_count → get_or seen k false ≡ member (record { 0 = k }) q

-- a weight, and that it and many like it can be added up
pub record Weighs (r n b : ℕ) : Type 0 where
  pub weight : r ≡ n
  pub bounded : r ≤ b

-- the weight of a word that is no mark is the heaviest
abbrev pub heaviest : ℕ
heaviest = 141_733_920_735

-- words that stand for nothing, or a request that is not as it must be
abbrev pub is_wrong : ℕ → Bool → List ℕ → List Slot → Slot → Bool
is_wrong n fair w q x = not (row_stands (row request_words w x.0)) || misfits n fair (member x q) (get_or (slots_of w) x.0 None)

abbrev pub is_free_in : List ℕ → Slot → Bool
is_free_in w x = not (is_some (get_or (slots_of w) x.0 None))

-- one of the slots is so, or the queue names a free one or one twice
unfoldable pub broken_slots : ℕ → Bool → List Slot → List ℕ → Bool
broken_slots n fair q w = any_of (is_wrong n fair w q) every_slot || (any_of (is_free_in w) q || twice q)
