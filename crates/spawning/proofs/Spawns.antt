-- One child more, and all of them.
use Prim.Native.Nat.{ℕ, zero, suc, ◌+◌, ◌*◌, ◌-◌, ◌^◌, ◌≤◌, ◌<◌}
use native.Mathlib.Nat.{mul-le-mul, suc-mul}
use native.Mathlib.Decide.{dec_le}
use native.Mathlib.Numerals.{add-one}
use native.Mathlib.Omega.{arith}
use mathlib.Core.Path.{◌≡◌, refl, ap, sym, ◌∙◌}
use mathlib.Core.List.{List, ◌∷◌, ◌++◌, append_assoc, append-nil}
use lib.ListN.{length, set, take, replicate, length-append, length-replicate, replicate-append-replicate}
use borrow.Author.Tests.{le-leb, lt-leb}
use lib.Seq.{set-append_seam, take_at}
use Rattle.rules.specs.Clock.{empty}
use Rattle.rules.specs.Spawning.{family, rows_of, spawned}
use Rattle.rules.proofs.Clocks.{length-empty}
use Rattle.rules.proofs.Spawned.{after_ticks, children, family-closed, rows_snoc, children-length, spawned-length}
use Rattle.spawning.specs.Rows.{rows_after, spawned_in}

-- A row has its place.

row_fits : (n i : ℕ) → i < n → n ≤ 16 → suc i * n ≤ 256
row_fits n i h l =
    let k : suc i ≤ 16 = omega arith in
    mul-le-mul k l

module _ (n k : ℕ) (h : k + 1 < n) (l : n ≤ 16) where
  pub place-within : (k + 1) * n < 256
  place-within = omega (arith, row_fits n (k + 1) h l, suc-mul (k + 1) n)

  pub place_small : (k + 1) * n < 2 ^ 64
  place_small = omega (arith, place-within)

  pub place_scaled : (k + 1) * n * 4 < 2 ^ 64
  place_scaled = omega (arith, place-within)

-- One child more.

-- the rows of task 0 and of k children, with a row of row-of-zeros behind them
module _ (w k : ℕ) (fits : suc (suc k) * suc w ≤ 256) where
  rest : ℕ
  rest = 256 - suc (suc k) * suc w

  rest-left : suc w + rest ≡ 256 - suc k * suc w
  unfolding rest
  rest-left = omega (arith, suc-mul (suc k) (suc w))

  row_of_zeros : replicate (256 - suc k * suc w) 0 ≡ (0 ∷ empty w) ++ replicate rest 0
  unfolding empty
  row_of_zeros = sym (replicate-append-replicate (suc w) rest 0 ∙ ap (λ (m : ℕ). replicate m 0) rest-left)

  shown : rows_after (suc w) k ≡ (after_ticks w k ++ rows_of (children w k)) ++ ((0 ∷ empty w) ++ replicate rest 0)
  unfolding rows_after rows_of
  shown = rw (family-closed w k, row_of_zeros)

  shown_more : rows_after (suc w) (suc k) ≡ (after_ticks w (suc k) ++ rows_of (children w k)) ++ (after_ticks w (suc k) ++ replicate rest 0)
  unfolding rows_after rows_of children rest
  shown_more =
      rw (family-closed w (suc k), rows_snoc (children w k) (after_ticks w (suc k)))
      (ap (λ (l : List ℕ). l ++ replicate (256 - suc (suc k) * suc w) 0) (sym (append_assoc (after_ticks w (suc k)) (rows_of (children w k)) (after_ticks w (suc k))))
      ∙ append_assoc (after_ticks w (suc k) ++ rows_of (children w k)) (after_ticks w (suc k)) (replicate (256 - suc (suc k) * suc w) 0))

  row-place : length (after_ticks w (suc k) ++ rows_of (children w k)) ≡ suc k * suc w
  row-place =
      length-append (after_ticks w (suc k)) (rows_of (children w k)) ∙ omega (arith, length-empty w, children-length w k, suc-mul k (suc w))

  one_more_lem : set (set (rows_after (suc w) k) 0 (suc k)) (suc k * suc w) (suc k) ≡ rows_after (suc w) (suc k)
  one_more_lem =
      ap (λ (l : List ℕ). set (set l 0 (suc k)) (suc k * suc w) (suc k)) shown
      ∙ ap (λ (i : ℕ). set ((after_ticks w (suc k) ++ rows_of (children w k)) ++ ((0 ∷ empty w) ++ replicate rest 0)) i (suc k)) (sym row-place)
      ∙ set-append_seam (after_ticks w (suc k) ++ rows_of (children w k)) 0 (empty w ++ replicate rest 0) (suc k)
      ∙ sym shown_more

pub child_more : (n k : ℕ) (starts : List ℕ) → k + 1 < n → n ≤ 16 → starts ≡ rows_after n k → set (set starts 0 (k + 1)) ((k + 1) * n) (k + 1) ≡ rows_after n (k + 1)
child_more zero k starts h l e = absurd (omega arith)
child_more (suc w) k starts h l e =
    let fits : suc (suc k) * suc w ≤ 256 = row_fits (suc w) (suc k) (omega arith) l in
    rw (e, add-one k) (one_more_lem w k fits)

-- All of them.

pub nobody_yet : (n : ℕ) (starts : List ℕ) → n ≤ 16 → starts ≡ replicate 256 0 → starts ≡ rows_after n 0
unfolding rows_after rows_of family empty
nobody_yet n starts l e =
    let m : n + (256 - n) ≡ 256 = omega arith in
    let o : 1 * n ≡ n = omega arith in
    e ∙ sym (rw (o, append-nil {A = ℕ} (replicate n 0)) (replicate-append-replicate n (256 - n) 0 ∙ ap (λ (i : ℕ). replicate i 0) m))

pub all_spawned : (n k : ℕ) (starts : List ℕ) → n ≤ k + 1 → k ≤ n - 1 → starts ≡ rows_after n k → starts ≡ rows_after n (n - 1)
all_spawned n k starts h l e =
    let q : k ≡ n - 1 = omega arith in
    e ∙ ap (rows_after n) q

last-rows : (n : ℕ) → suc (n - 1) * n ≡ n * n
last-rows zero = refl
last-rows (suc w) = ap (λ (k : ℕ). suc k * suc w) (omega arith)

pub spawned-rows : (n : ℕ) (starts : List ℕ) → n ≤ 16 → starts ≡ rows_after n (n - 1) → starts ≡ spawned_in n
unfolding rows_after spawned spawned_in
spawned-rows n starts l e = e ∙ rw (le-leb n 16 l, last-rows n)

pub none_spawned : (n : ℕ) (starts : List ℕ) → 16 < n → starts ≡ replicate 256 0 → starts ≡ spawned_in n
unfolding spawned_in
none_spawned n starts h e = e ∙ rw (lt-leb n 16 h)

-- WHAT IS TAKEN of the words: the clocks of so many tasks.
pub spawned_taken : (n : ℕ) → n ≤ 16 → take (n * n) (spawned_in n) ≡ spawned n
unfolding spawned_in
spawned_taken n l = rw (le-leb n 16 l) (take_at (spawned n) (replicate (256 - n * n) 0) (n * n) (spawned-length n))

pub spawned-sized : (n : ℕ) (starts : List ℕ) → starts ≡ spawned_in n → length starts ≡ 256
unfolding spawned_in
spawned-sized n starts e =
    elim (dec_le n 16) [
      | yes l ↦
          rw (e, le-leb n 16 l, length-append (spawned n) (replicate (256 - n * n) 0), spawned-length n, length-replicate {A = ℕ} (256 - n * n) 0)
          (omega (arith, mul-le-mul l l))
      | no l ↦ rw (e, lt-leb n 16 (omega arith), length-replicate {A = ℕ} 256 0)
    ]
