-- A flat table of n rows, each of w entries: reading a row, and writing one over, entry by entry.
use Prim.Native.Nat.{ℕ, ◌+◌, ◌*◌, ◌-◌, ◌≤◌, ◌<◌}
use native.Mathlib.Nat.{suc-mul, mul-le-mul_right}
use native.Mathlib.Decide.{dec_lt}
use native.Mathlib.Omega.{arith}
use mathlib.Core.Path.{◌≡◌, sym, ap, ◌∙◌}
use mathlib.Core.List.{List, ◌++◌, append_assoc}
use lib.ListN.{length, take, drop, length-drop, take-append-drop}
use lib.Seq.{paste, take_at, drop_at, take_all, take-append-le, drop-append-le, drop-drop, drop-paste, length-take-le}
use Rattle.tables.specs.Table.{row}

-- row p ends where row p + 1 begins
row-end : (w p n : ℕ) → p < n → p * w + w ≤ n * w
row-end w p n h = rw suc-mul at (mul-le-mul_right w h)

module _ (w : ℕ) (xs : List ℕ) (p : ℕ) (inside : p * w + w ≤ length xs) where
  pub row-length : length (row w xs p) ≡ w
  row-length = length-take-le w (drop (p * w) xs) (simp length-drop (omega arith))

-- a part of a list written over by s: that part is s, and a part beside it is as it was
module _ (d : List ℕ) (a w : ℕ) (s : List ℕ) (fits : a + w ≤ length d) (sized : length s ≡ w) where
  part_same : take w (drop a (paste d a s w)) ≡ s
  part_same =
      rw (
        append_assoc (take a d) (take w s) (drop (a + w) d),
        drop_at (take a d) (take w s ++ drop (a + w) d) a (length-take-le a d (omega arith)),
        take_at (take w s) (drop (a + w) d) w (length-take-le w s (omega arith)),
      )
      (take_all w s (omega arith))

  front : (b : ℕ) (r : List ℕ) → b + w ≤ a → take w (drop b (take a d ++ r)) ≡ take w (drop b (take a d))
  front b r h =
      let n : length (take a d) ≡ a = length-take-le a d (omega arith) in
      rw (drop-append-le b (take a d) r (omega arith), take-append-le w (drop b (take a d)) r (simp length-drop (omega arith)))

  part_before : (b : ℕ) → b + w ≤ a → take w (drop b (paste d a s w)) ≡ take w (drop b d)
  part_before b h =
      rw (append_assoc (take a d) (take w s) (drop (a + w) d)) (front b (take w s ++ drop (a + w) d) h)
      ∙ sym (front b (drop a d) h)
      ∙ ap (λ (l : List ℕ). take w (drop b l)) (take-append-drop a d)

  part_after : (b : ℕ) → a + w ≤ b → take w (drop b (paste d a s w)) ≡ take w (drop b d)
  part_after b h =
      let e : (a + w) + (b - (a + w)) ≡ b = omega arith in
      rw (← e, ← drop-drop (b - (a + w)) (a + w) (paste d a s w), drop-paste d a s w (omega arith) (omega arith), drop-drop (b - (a + w)) (a + w) d)

module _ (w n : ℕ) (xs : List ℕ) (p : ℕ) (s : List ℕ) (inside : p < n) (sized : length xs ≡ n * w) (wide : length s ≡ w) where
  fits : p * w + w ≤ length xs
  fits = omega (arith, row-end w p n inside)

  pub row_same : row w (paste xs (p * w) s w) p ≡ s
  row_same = part_same xs (p * w) w s fits wide

  pub row_other : (q : ℕ) → (q ≡ p → ⊥) → row w (paste xs (p * w) s w) q ≡ row w xs q
  row_other q h =
      elim (dec_lt q p) [
        | yes l ↦ part_before xs (p * w) w s fits wide (q * w) (row-end w q p l)
        | no l ↦ part_after xs (p * w) w s fits wide (q * w) (row-end w p q (omega arith))
      ]
