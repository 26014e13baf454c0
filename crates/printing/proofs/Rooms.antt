-- Room for any number, any answer and any line.
use Prim.Native.Nat.{ℕ, zero, suc, ◌+◌, ◌*◌, ◌≤◌, ◌<◌}
use mathlib.Core.Path.{◌≡◌, refl, ap}
use mathlib.Core.Bool.{Bool, true, false, cond}
use mathlib.Core.List.{List, [], ◌∷◌, ◌++◌}
use native.Mathlib.Omega.{arith}
use lib.Dec.{ltb}
use lib.ListN.{length, length-append}
use borrow.Author.Tests.{ltb-true}
use Rattle.rules.specs.declared.Slot.{Slot}
use Rattle.rules.specs.declared.Grant.{Grant}
use Rattle.rules.specs.declared.Taker.TheVariants.{BySlot, ByTry}
use Rattle.rules.specs.Steps.{Answer}
use Rattle.rules.specs.Text.{space, line_feed, comma, joined_by, digits}
use Rattle.rules.specs.Script.{answer_text, closed_text, taker_text, grants_text}
use Rattle.rules.proofs.Decimal.{digits-length}
use Rattle.tables.specs.Table.{table}
use Rattle.replies.specs.declared.Refusal.{Refusal}
use Rattle.replies.specs.declared.Reply.{Reply}
use Rattle.replies.specs.declared.Reply.TheVariants.{Made, Refused}
use Rattle.replies.specs.Answers.{number_of, answer_of}
use Rattle.words.specs.View.{taker_of, grant_of, grant_words_in, grants_of}
use Rattle.printing.specs.declared.Counts.{Counts}
use Rattle.printing.specs.Printed.{line_text, counts_text}
use Rattle.printing.proofs.Chain.{together, counts_pieces}
use Rattle.printing.proofs.Lines.{line_pieces}

pub small_fits : (n : ℕ) → n < 256 → length (digits n) ≤ 3
small_fits n h = digits-length n 2 (omega arith)

pub number_fits : (n : ℕ) → n < 4294967296 → length (digits n) ≤ 10
number_fits n h = digits-length n 9 (omega arith)

-- Answers.

module _ (a : Reply) where
  pub word_fits : (k : Reply) (n : ℕ) → a ≡ k → length (answer_text (answer_of k)) ≤ n → length (answer_text (answer_of a)) ≤ n
  word_fits k n e l = rw e l

  pub made-fits : (x : Slot) (n : ℕ) → a ≡ Made x → length (digits x.0) ≤ n → length (answer_text (answer_of a)) ≤ 1 + n
  made-fits x n e l = rw e (omega arith)

  pub refused-fits : (f : Refusal) (m n : ℕ) → a ≡ Refused f → m ≡ number_of f → length (digits m) ≤ n → length (answer_text (answer_of a)) ≤ 1 + n
  refused-fits f m n e q l = rw (e, ← q) (omega arith)

-- Grants: at most three bytes and a comma for each.

taker-fits : (x : ℕ) → length (taker_text (taker_of x)) ≤ 3
unfolding taker_of
taker-fits x = go (ltb x 256) refl
  where
    go : (b : Bool) → ltb x 256 ≡ b → length (taker_text (cond b (BySlot (record { 0 = x })) ByTry)) ≤ 3
    go true e = small_fits x (ltb-true x 256 e)
    go false e = omega arith

takers_fit : (w : List ℕ) (n i : ℕ) → length (grants_text (table (λ (k : ℕ). grant_of (grant_words_in w k)) i (suc n))) ≤ 4 * n + 3
unfolding table joined_by
takers_fit w zero i = omega (arith, taker-fits (grant_words_in w i).taker)
takers_fit w (suc n) i =
    omega (
      arith,
      taker-fits (grant_words_in w i).taker,
      takers_fit w n (suc i),
      length-append (taker_text (taker_of (grant_words_in w i).taker)) (comma ∷ grants_text (table (λ (k : ℕ). grant_of (grant_words_in w k)) (suc i) (suc n))),
    )

grants-fit : (n : ℕ) (w : List ℕ) → length (grants_text (grants_of n w)) ≤ 4 * n + 1
unfolding grants_of table
grants-fit zero w = omega arith
grants-fit (suc n) w = omega (arith, takers_fit w n 0)

-- The line.

abbrev total : List (List ℕ) → ℕ
total [] = 0
total (xs ∷ rest) = length xs + total rest

together_length : (ts : List (List ℕ)) → length (together ts) ≡ total ts
together_length [] = refl
together_length (xs ∷ rest) = omega (arith, length-append xs (together rest), together_length rest)

closed-length : (b : Bool) → length (closed_text b) ≡ 1
closed-length true = refl
closed-length false = refl

counts-length : (c : Counts) → length (counts_text c) ≡ length (digits c.available) + length (digits c.stock) + length (digits c.queued) + 5
counts-length c =
    omega (
      arith,
      ap length (counts_pieces c),
      together_length ((digits c.available ++ space ∷ []) ∷ (digits c.stock ++ space ∷ []) ∷ (closed_text c.closed ++ space ∷ []) ∷ (digits c.queued ++ space ∷ []) ∷ []),
      length-append (digits c.available) (space ∷ []),
      length-append (digits c.stock) (space ∷ []),
      length-append (closed_text c.closed) (space ∷ []),
      length-append (digits c.queued) (space ∷ []),
      closed-length c.closed,
    )

pub line-fits : (a : Answer) (c : Counts) (n x y z q : ℕ) → length (answer_text a) ≤ x → length (digits c.available) ≤ y → length (digits c.stock) ≤ z → length (digits c.queued) ≤ q
    → (w : List ℕ) → length (line_text a c (grants_of n w)) ≤ x + y + z + q + 4 * n + 8
line-fits a c n x y z q k l m o w =
    omega (arith, ap length (line_pieces a c (grants_of n w)), together_length (answer_text a ∷ (space ∷ []) ∷ counts_text c ∷ grants_text (grants_of n w) ∷ (line_feed ∷ []) ∷ []), counts-length c, grants-fit n w)

-- a line has bytes, its line feed at least
pub line_some : (a : Answer) (c : Counts) (gs : List Grant) → 1 ≤ length (line_text a c gs)
line_some a c gs =
    omega (arith, ap length (line_pieces a c gs), together_length (answer_text a ∷ (space ∷ []) ∷ counts_text c ∷ grants_text gs ∷ (line_feed ∷ []) ∷ []))
