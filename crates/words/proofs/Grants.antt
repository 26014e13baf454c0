-- Grants in their words: one more behind those that stay.
use Prim.Native.Nat.{ℕ, ◌+◌, ◌*◌, ◌<◌}
use native.Mathlib.Nat.{zero-add}
use native.Mathlib.Numerals.{add-one}
use native.Mathlib.Omega.{arith}
use mathlib.Core.Path.{◌≡◌, refl, ap, ◌∙◌}
use mathlib.Core.Bool.{Bool, cond}
use mathlib.Core.List.{List, [], ◌∷◌, ◌++◌}
use borrow.Author.Tests.{lt-ltb}
use lib.ListN.{length, get_or, set, length-set}
use lib.Seq.{get_or-set_same, get_or-set_other}
use Rattle.rules.specs.declared.Slot.{Slot}
use Rattle.rules.specs.declared.Taker.{Taker}
use Rattle.rules.specs.declared.Taker.TheVariants.{BySlot, ByTry}
use Rattle.rules.specs.Sizes.{slot_count}
use Rattle.tables.specs.Table.{table}
use Rattle.tables.proofs.Tables.{table_more, table-length}
use Rattle.words.specs.declared.GrantWords.{GrantWords}
use Rattle.words.specs.View.{taker_of, grant_of, grant_words_in, grants_of}

pub no_grants : (w : List ℕ) → grants_of 0 w ≡ []
unfolding grants_of table
no_grants w = refl

slot-taker : (x : ℕ) → x < 256 → taker_of x ≡ BySlot (record { 0 = x })
unfolding taker_of
slot-taker x l = ap (λ (b : Bool). cond b (BySlot (record { 0 = x })) ByTry) (lt-ltb x 256 l)

try_taker : taker_of 256 ≡ ByTry
unfolding taker_of
try_taker = refl

module _ (w : List ℕ) (n : ℕ) (g : GrantWords) (inside : n < slot_count) (sized : length w ≡ slot_count * 3) where
  abbrev one : List ℕ
  one = set w (3 * n) g.taker

  abbrev two : List ℕ
  two = set one (3 * n + 1) g.count

  abbrev three : List ℕ
  three = set two (3 * n + 2) g.task

  kept : (p : ℕ) → p < 3 * n → get_or three p 0 ≡ get_or w p 0
  kept p h =
      get_or-set_other two (3 * n + 2) p g.task 0 (λ q. omega arith)
      ∙ get_or-set_other one (3 * n + 1) p g.count 0 (λ q. omega arith)
      ∙ get_or-set_other w (3 * n) p g.taker 0 (λ q. omega arith)

  long_one : length one ≡ length w
  long_one = length-set w (3 * n) g.taker

  long_two : length two ≡ length w
  long_two = length-set one (3 * n + 1) g.count ∙ long_one

  first : get_or three (3 * n) 0 ≡ g.taker
  first =
      get_or-set_other two (3 * n + 2) (3 * n) g.task 0 (λ q. omega arith)
      ∙ get_or-set_other one (3 * n + 1) (3 * n) g.count 0 (λ q. omega arith)
      ∙ get_or-set_same w (3 * n) g.taker 0 (omega arith)

  second : get_or three (3 * n + 1) 0 ≡ g.count
  second =
      get_or-set_other two (3 * n + 2) (3 * n + 1) g.task 0 (λ q. omega arith)
      ∙ get_or-set_same one (3 * n + 1) g.count 0 (omega (arith, long_one))

  third : get_or three (3 * n + 2) 0 ≡ g.task
  third = get_or-set_same two (3 * n + 2) g.task 0 (omega (arith, long_two))

  pushed : grants_of (n + 1) three ≡ grants_of n w ++ grant_of g ∷ []
  unfolding grants_of
  pushed =
      rw (add-one n)
      (table_more (λ (i : ℕ). grant_of (grant_words_in w i)) (λ (i : ℕ). grant_of (grant_words_in three i)) n 0
      (λ k h. rw (kept (3 * k) (omega arith), kept (3 * k + 1) (omega arith), kept (3 * k + 2) (omega arith)))
      ∙ rw (zero-add n, first, second, third))

  pushed_by : (after : List ℕ) (u : Taker) → taker_of g.taker ≡ u → after ≡ three → grants_of (n + 1) after ≡ grants_of n w ++ record { taker = u; count = g.count; task = record { 0 = g.task } } ∷ []
  pushed_by after u e p = ap (grants_of (n + 1)) p ∙ pushed ∙ ap (λ (v : Taker). grants_of n w ++ record { taker = v; count = g.count; task = record { 0 = g.task } } ∷ []) e

abbrev Put : List ℕ → List ℕ → ℕ → ℕ → ℕ → ℕ → Type 0
Put after w n x c t = after ≡ set (set (set w (3 * n) x) (3 * n + 1) c) (3 * n + 2) t

pub pushed_slot : (w after : List ℕ) (n : ℕ) (x : Slot) (c t : ℕ) → n < slot_count → length w ≡ slot_count * 3 → x.0 < 256 → Put after w n x.0 c t → grants_of (n + 1) after ≡ grants_of n w ++ record { taker = BySlot x; count = c; task = record { 0 = t } } ∷ []
pushed_slot w after n x c t l s h p = pushed_by w n (record { taker = x.0; count = c; task = t }) l s after (BySlot x) (slot-taker x.0 h) p

pub pushed_try : (w after : List ℕ) (c t : ℕ) → length w ≡ slot_count * 3 → Put after w 0 256 c t → grants_of 1 after ≡ record { taker = ByTry; count = c; task = record { 0 = t } } ∷ []
unfolding grants_of table
pushed_try w after c t s p = pushed_by w 0 (record { taker = 256; count = c; task = t }) (omega arith) s after ByTry try_taker p

-- so many words, so many grants
pub grants-number : (n : ℕ) (w : List ℕ) → length (grants_of n w) ≡ n
unfolding grants_of
grants-number n w = table-length (λ (i : ℕ). grant_of (grant_words_in w i)) (grant_of (grant_words_in w 0)) n 0
