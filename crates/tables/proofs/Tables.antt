-- A table whose one entry changed.
use Prim.Native.Nat.{ℕ, zero, suc, ◌+◌, ◌≤◌, ◌<◌}
use native.Mathlib.Nat.{add-zero}
use native.Mathlib.Omega.{arith}
use mathlib.Core.Path.{◌≡◌, refl, ap}
use mathlib.Core.List.{List, [], ◌∷◌, ◌++◌}
use lib.ListN.{length, get_or, set, get_or-eq_default}
use Rattle.tables.specs.Table.{table}

module _ {A : Type 0} (f g : ℕ → A) where
  pub table_agree : (n i : ℕ) → ((k : ℕ) → i ≤ k → g k ≡ f k) → table g i n ≡ table f i n
  unfolding table
  table_agree zero i h = refl
  table_agree (suc n) i h = rw (h i (omega arith), table_agree n (suc i) (λ k l. h k (omega arith)))

  pub table-set : (n p i : ℕ) → p < n → ((k : ℕ) → (k ≡ i + p → ⊥) → g k ≡ f k) → table g i n ≡ set (table f i n) p (g (i + p))
  unfolding table
  table-set zero p i l h = absurd (omega arith)
  table-set (suc n) zero i l h = rw (add-zero i, table_agree n (suc i) (λ k b. h k (omega arith)))
  table-set (suc n) (suc p) i l h =
      let e : i + suc p ≡ suc i + p = omega arith in
      rw (e, ← h i (omega arith), table-set n p (suc i) (omega arith) (λ k b. h k (omega arith)))

module _ {A : Type 0} (f : ℕ → A) (d : A) where
  pub table_get : (n p i : ℕ) → p < n → get_or (table f i n) p d ≡ f (i + p)
  unfolding table
  table_get zero p i l = absurd (omega arith)
  table_get (suc n) zero i l = rw (add-zero i)
  table_get (suc n) (suc p) i l =
      let e : i + suc p ≡ suc i + p = omega arith in
      rw e (table_get n p (suc i) (omega arith))

  pub table-length : (n i : ℕ) → length (table f i n) ≡ n
  unfolding table
  table-length zero i = refl
  table-length (suc n) i = ap suc (table-length n (suc i))

  pub table_past : (n p : ℕ) → n ≤ p → get_or (table f 0 n) p d ≡ d
  table_past n p h = get_or-eq_default (table f 0 n) d (omega (arith, table-length n 0))

module _ {A : Type 0} (f g : ℕ → A) where
  -- one entry more behind n that stay
  pub table_more : (n i : ℕ) → ((k : ℕ) → k < i + n → g k ≡ f k) → table g i (suc n) ≡ table f i n ++ g (i + n) ∷ []
  unfolding table
  table_more zero i h = rw (add-zero i)
  table_more (suc n) i h =
      let e : i + suc n ≡ suc i + n = omega arith in
      rw (e, ← h i (omega arith)) (ap (λ (l : List A). g i ∷ l) (table_more n (suc i) (λ k l. h k (omega arith))))
