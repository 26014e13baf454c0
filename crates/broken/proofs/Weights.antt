-- What a slot weighs, from the tests that led to it; and sums over slots, a few at a time.
use Prim.Native.Nat.{ℕ, zero, suc, ◌+◌, ◌*◌, ◌-◌, ◌≤◌, ◌<◌, ◌^◌}
use native.Mathlib.Nat.{add-zero, zero-add, add_assoc}
use native.Mathlib.Omega.{arith}
use mathlib.Core.Path.{◌≡◌, refl, sym, ap, ◌∙◌}
use mathlib.Core.Bool.{Bool, true, false, cond, not}
use mathlib.Core.List.{List}
use borrow.Author.Tests.{eqb-true, eq-eqb, ne_eqb, not-false}
use lib.Dec.{eqb}
use lib.ListN.{get_or}
use Rattle.words.specs.View.{request_words}
use Rattle.broken.specs.Weights.{words_at, request_wrong, heavy, weight_of, weights, sum_from, Weighs, heaviest}

-- ---- one slot
module _ (n : ℕ) (fair named : Bool) (w : List ℕ) (b : ℕ) where
  abbrev all : ℕ
  all = weight_of n fair named (words_at w b)

  first : words_at w b 0 ≡ get_or w b 0
  first = ap (λ (k : ℕ). get_or w k 0) (add-zero b)

  pub stray_weighs : (get_or w b 0 ≡ 1 → ⊥) → all ≡ heavy * get_or w b 0
  unfolding weight_of
  stray_weighs d = rw (first, ne_eqb (get_or w b 0) 1 d)

  pub word_weighs : (get_or w b 0 ≡ 1 → ⊥) → get_or w b 0 < 2 ^ 32 → Weighs (33 * get_or w b 0) all heaviest
  word_weighs d l = record { weight = sym (stray_weighs d); bounded = omega arith }

  pub free_weighs : get_or w b 0 ≡ 0 → all ≡ 0
  unfolding weight_of
  free_weighs e = rw (first, e)

  module _ (u : get_or w b 0 ≡ 1) (r : Bool) (e : r ≡ request_wrong n fair named (words_at w b)) where
    pub used_weighs : all ≡ cond r heavy (cond named 1 0)
    unfolding weight_of
    used_weighs = rw (first, eq-eqb (get_or w b 0) 1 u, ← e)

    pub wrong_weighs : r ≡ true → Weighs 33 all heaviest
    wrong_weighs t = record { weight = sym (used_weighs ∙ rw t); bounded = omega arith }

    -- one where the queue names it, and else nothing
    pub right_weighs : (m : ℕ) → m ≡ cond named 1 0 → m ≤ 1 → r ≡ false → Weighs m all heaviest
    right_weighs m h l f = record { weight = h ∙ sym (used_weighs ∙ rw f); bounded = omega arith }

-- ---- sums
module _ (f : ℕ → ℕ) where
  pub sum-append : (a b i : ℕ) → sum_from f (a + b) i ≡ sum_from f a i + sum_from f b (i + a)
  unfolding sum_from
  sum-append zero b i = rw (zero-add b, zero-add (sum_from f b (i + 0)), add-zero i)
  sum-append (suc a) b i =
      let e : suc a + b ≡ suc (a + b) = omega arith in
      let g : i + suc a ≡ suc i + a = omega arith in
      rw (e, g, sum-append a b (suc i)) (sym (add_assoc (f i) (sum_from f a (suc i)) (sum_from f b (suc i + a))))

  pub sums_start : (m k : ℕ) → 0 + sum_from f (m - 0) (k + 0) ≡ sum_from f m k
  sums_start m k = let e : m - 0 ≡ m = omega arith in rw (zero-add (sum_from f (m - 0) (k + 0)), e, add-zero k)

  -- of m numbers from k on, j are summed: one more, and all
  module _ (m k j sum whole : ℕ) (e : sum + sum_from f (m - j) (k + j) ≡ whole) where
    pub sums_more : (x : ℕ) → j < m → x ≡ f (k + j) → (sum + x) + sum_from f (m - (j + 1)) (k + (j + 1)) ≡ whole
    unfolding sum_from
    sums_more x l h =
        let a : m - j ≡ suc (m - (j + 1)) = omega arith in
        let b : k + (j + 1) ≡ suc (k + j) = omega arith in
        rw (b, h) (add_assoc sum (f (k + j)) (sum_from f (m - (j + 1)) (suc (k + j))) ∙ sym (ap (λ (n : ℕ). sum + sum_from f n (k + j)) a) ∙ e)

    pub sums_done : m ≤ j → sum ≡ whole
    unfolding sum_from
    sums_done l =
        let a : m - j ≡ 0 = omega arith in
        sym (add-zero sum) ∙ sym (ap (λ (n : ℕ). sum + sum_from f n (k + j)) a) ∙ e

  -- the same, four at a time
  some_more : (a m k next rest sum x whole : ℕ) → rest ≡ a + m → next ≡ k + a → x ≡ sum + sum_from f a k → sum + sum_from f rest k ≡ whole → x + sum_from f m next ≡ whole
  some_more a m k next rest sum x whole r n h e =
      rw (h, n)
      (add_assoc sum (sum_from f a k) (sum_from f m (k + a)) ∙ ap (λ (z : ℕ). sum + z) (sym (sum-append a m k)) ∙ sym (ap (λ (z : ℕ). sum + sum_from f z k) r) ∙ e)

  pub sums_four : (i sum x whole : ℕ) → i < 8 → x ≡ sum + sum_from f 4 (4 * i) → sum + sum_from f (32 - 4 * i) (4 * i) ≡ whole
      → x + sum_from f (32 - 4 * (i + 1)) (4 * (i + 1)) ≡ whole
  sums_four i sum x whole l h e = some_more 4 (32 - 4 * (i + 1)) (4 * i) (4 * (i + 1)) (32 - 4 * i) sum x whole (omega arith) (omega arith) h e

  pub fours_done : (i sum whole : ℕ) → 8 ≤ i → sum + sum_from f (32 - 4 * i) (4 * i) ≡ whole → sum ≡ whole
  unfolding sum_from
  fours_done i sum whole l e =
      let a : 32 - 4 * i ≡ 0 = omega arith in
      sym (add-zero sum) ∙ sym (ap (λ (n : ℕ). sum + sum_from f n (4 * i)) a) ∙ e

-- nothing more
pub none_more : (sum n b : ℕ) → n ≡ 0 → sum ≤ b → Weighs sum (sum + n) b
none_more sum n b e l = record { weight = rw (e, add-zero sum); bounded = l }

-- ---- four slots
pub four_free : (w : List ℕ) (k : ℕ) → get_or w (k * 10) 0 ≡ 0 → get_or w (k * 10 + 10) 0 ≡ 0 → get_or w (k * 10 + 20) 0 ≡ 0 → not (eqb (get_or w (k * 10 + 30) 0) 0) ≡ false
    → (n : ℕ) (fair : Bool) (seen : List Bool) → sum_from (weights n fair seen w) 4 k ≡ 0
unfolding sum_from
four_free w k a b c d n fair seen =
    let e0 = z k (k * 10) a refl in
    let e1 = z (suc k) (k * 10 + 10) b (omega arith) in
    let e2 = z (suc (suc k)) (k * 10 + 20) c (omega arith) in
    let e3 = z (suc (suc (suc k))) (k * 10 + 30) (eqb-true _ 0 (not-false _ d)) (omega arith) in
    omega arith
  where
    z : (i m : ℕ) → get_or w m 0 ≡ 0 → i * request_words ≡ m → weights n fair seen w i ≡ 0
    z i m e h = free_weighs n fair (get_or seen i false) w (i * request_words) (ap (λ (j : ℕ). get_or w j 0) h ∙ e)
