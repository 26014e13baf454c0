-- Of the slots in use, as many are in a list as it is long exactly where each of its slots is in use and none stands twice.
use Prim.Native.Nat.{ℕ, zero, suc, ◌+◌, ◌≤◌, ◌<◌}
use native.Mathlib.Nat.{add-zero}
use native.Mathlib.Decide.{dec_lt}
use native.Mathlib.Omega.{arith}
use mathlib.Core.Path.{◌≡◌, refl, sym, ap, ◌∙◌}
use mathlib.Core.Bool.{Bool, true, false, cond, not, ◌&&◌, ◌||◌}
use mathlib.Core.List.{List, [], ◌∷◌}
use borrow.Author.Tests.{eqb-true, eqb-false, eq-eqb, ne_eqb}
use lib.Dec.{eqb}
use lib.ListN.{length}
use Rattle.rules.specs.declared.Slot.{Slot}
use Rattle.rules.specs.Broken.{any_of, member, twice}
use Rattle.rules.proofs.Bools.{by_test}
use Rattle.broken.specs.Weights.{sum_from}

module _ (used : ℕ → Bool) where
  abbrev count : Bool → ℕ
  count b = cond b 1 0

  -- one for each slot in use that stands in the list
  abbrev pub used_in : List Slot → ℕ → ℕ
  used_in q k = count (used k && member (record { 0 = k }) q)

  module _ (x : Slot) (q : List Slot) where
    -- a slot more counts one, if it is in use and new
    abbrev more : ℕ
    more = count (used x.0 && not (member x q))

    apart : (k : ℕ) → (k ≡ x.0 → ⊥) → used_in (x ∷ q) k ≡ used_in q k
    unfolding any_of
    apart k d = rw (ne_eqb k x.0 d)

    outside : (m i : ℕ) → ((k : ℕ) → i ≤ k → k < i + m → k ≡ x.0 → ⊥) → sum_from (used_in (x ∷ q)) m i ≡ sum_from (used_in q) m i
    unfolding sum_from
    outside zero i d = refl
    outside (suc m) i d = rw (apart i (d i (omega arith) (omega arith)), outside m (suc i) (λ k l h. d k (omega arith) (omega arith)))

    here : (u b : Bool) (n : ℕ) → count (u && true) + n ≡ (count (u && b) + n) + count (u && not b)
    here true true n = sym (add-zero (1 + n))
    here true false n = omega arith
    here false b n = sym (add-zero (0 + n))

    inside : (m i : ℕ) → i ≤ x.0 → x.0 < i + m → sum_from (used_in (x ∷ q)) m i ≡ sum_from (used_in q) m i + more
    unfolding sum_from any_of
    inside zero i l h = absurd (omega arith)
    inside (suc m) i l h =
        by_test (eqb i x.0)
        (λ e.
        let f : i ≡ x.0 = eqb-true i x.0 e in
        let rest = sum_from (used_in q) m (suc i) in
        rw (e, outside m (suc i) (λ k a b c. omega arith))
        (ap (λ (k : ℕ). count (used k && true) + rest) f ∙ here (used x.0) (member x q) rest ∙ sym (ap (λ (k : ℕ). (used_in q k + rest) + more) f)))
        (λ e.
        let d : i ≡ x.0 → ⊥ = eqb-false i x.0 e in
        let g = inside m (suc i) (omega arith) (omega arith) in
        let a = apart i d in
        omega arith)

  -- n slots hold all that are in use
  module _ (n : ℕ) (all : (k : ℕ) → used k ≡ true → k < n) where
    abbrev counted : List Slot → ℕ
    counted q = sum_from (used_in q) n 0

    counted_cons : (x : Slot) (q : List Slot) → counted (x ∷ q) ≡ counted q + more x q
    counted_cons x q =
        elim (dec_lt x.0 n) [
          | yes l ↦ inside x q n 0 (omega arith) (omega arith)
          | no l ↦
              let f : used x.0 ≡ false = by_test (used x.0) (λ u. absurd (omega (arith, all x.0 u))) (λ u. u) in
              outside x q n 0 (λ k a b c. omega arith) ∙ sym (add-zero (counted q)) ∙ sym (ap (λ (b : Bool). counted q + count (b && not (member x q))) f)
        ]

    none_counted : (m i : ℕ) → sum_from (used_in []) m i ≡ 0
    unfolding sum_from any_of
    none_counted zero i = refl
    none_counted (suc m) i = rw (none_counted m (suc i)) (go (used i))
      where
        go : (u : Bool) → count (u && false) + 0 ≡ 0
        go true = refl
        go false = refl

    few : (b : Bool) → count b ≤ 1
    few true = omega arith
    few false = omega arith

    counted-few : (q : List Slot) → counted q ≤ length q
    counted-few [] = omega (arith, none_counted n 0)
    counted-few (x ∷ q) = omega (arith, counted_cons x q, counted-few q, few (used x.0 && not (member x q)))

    same-suc : (a b : ℕ) → eqb (suc a) (suc b) ≡ eqb a b
    same-suc a b =
        by_test (eqb a b)
        (λ e. eq-eqb (suc a) (suc b) (ap suc (eqb-true a b e)) ∙ sym e)
        (λ e. ne_eqb (suc a) (suc b) (λ f. eqb-false a b e (omega arith)) ∙ sym e)

    abbrev free : Slot → Bool
    free x = not (used x.0)

    or-true : (b : Bool) → b || true ≡ true
    or-true true = refl
    or-true false = refl

    -- one slot more: where it is not counted, the count stays behind
    step : (q : List Slot) (u m : Bool) (c : ℕ) → c ≡ counted q + count (u && not m) → not (eqb (counted q) (length q)) ≡ any_of free q || twice q
        → not (eqb c (suc (length q))) ≡ (not u || any_of free q) || (m || twice q)
    step q true false c e h = let f : c ≡ suc (counted q) = omega arith in rw (f, same-suc (counted q) (length q)) h
    step q true true c e h = rw (ne_eqb c (suc (length q)) (λ f. omega (arith, counted-few q))) (sym (or-true (any_of free q)))
    step q false m c e h = rw (ne_eqb c (suc (length q)) (λ f. omega (arith, counted-few q)))

    pub counted_all : (q : List Slot) → not (eqb (counted q) (length q)) ≡ any_of free q || twice q
    unfolding any_of twice
    counted_all [] = rw (none_counted n 0)
    counted_all (x ∷ q) = step q (used x.0) (member x q) (counted (x ∷ q)) (counted_cons x q) (counted_all q)
