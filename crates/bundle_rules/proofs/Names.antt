-- What a well made name is, place by place: document 02's words for refusal 22, both ways.
use Prim.Native.Nat.{ℕ, zero, suc, ◌<◌}
use native.Mathlib.Omega.{arith}
use mathlib.Core.Logic.{◌↔◌}
use mathlib.Core.Path.{◌≡◌, refl, sym, ap, ◌∙◌}
use mathlib.Core.Bool.{Bool, true, false}
use mathlib.Core.List.{List, [], ◌∷◌}
use borrow.Author.Tests.{eqb-true, eq-eqb, ne_eqb, le-leb}
use lib.Dec.{eqb, leb}
use lib.ListN.{length, get_or, drop}
use Rattle.rules.specs.Text.{before}
use Rattle.rules.proofs.Bools.{by_test, both, clash}
use Rattle.bundle_rules.specs.Bundled.{zeros, well_made}

-- it does not start with a zero byte, and behind a zero byte there is no other
pub record RightlyMade (m : List ℕ) : Type 0 where
  pub starts : get_or m 0 0 ≡ 0 → ⊥
  pub padded : (i j : ℕ) → i < j → get_or m i 0 ≡ 0 → get_or m j 0 ≡ 0

abbrev padded : List ℕ → Bool
padded m = zeros (drop (length (before 0 m)) m)

before-zero : (c : ℕ) (cs : List ℕ) → eqb c 0 ≡ true → before 0 (c ∷ cs) ≡ []
unfolding before
before-zero c cs e = rw (e, before)

before_more : (c : ℕ) (cs : List ℕ) → eqb c 0 ≡ false → before 0 (c ∷ cs) ≡ c ∷ before 0 cs
unfolding before
before_more c cs e = rw (e, before)

zero_each : (m : List ℕ) → zeros m ≡ true → (j : ℕ) → get_or m j 0 ≡ 0
unfolding zeros
zero_each [] e j = refl
zero_each (c ∷ cs) e zero = eqb-true c 0 (both (eqb c 0) (zeros cs) e).0
zero_each (c ∷ cs) e (suc j) = zero_each cs (both (eqb c 0) (zeros cs) e).1 j

each_zero : (m : List ℕ) → ((j : ℕ) → get_or m j 0 ≡ 0) → zeros m ≡ true
unfolding zeros
each_zero [] h = refl
each_zero (c ∷ cs) h = rw (eq-eqb c 0 (h 0)) (each_zero cs (λ j. h (suc j)))

-- a first byte that is no zero
starts_zero : (c : ℕ) (cs : List ℕ) → eqb c 0 ≡ true → padded (c ∷ cs) ≡ zeros (c ∷ cs)
starts_zero c cs e = ap (λ (p : List ℕ). zeros (drop (length p) (c ∷ cs))) (before-zero c cs e)

starts_more : (c : ℕ) (cs : List ℕ) → eqb c 0 ≡ false → padded (c ∷ cs) ≡ padded cs
starts_more c cs e = ap (λ (p : List ℕ). zeros (drop (length p) (c ∷ cs))) (before_more c cs e)

padded_each : (m : List ℕ) → padded m ≡ true → (i j : ℕ) → i < j → get_or m i 0 ≡ 0 → get_or m j 0 ≡ 0
padded_each [] e i j l z = refl
padded_each (c ∷ cs) e i zero l z = absurd (omega arith)
padded_each (c ∷ cs) e zero (suc j) l z = zero_each (c ∷ cs) (sym (starts_zero c cs (eq-eqb c 0 z)) ∙ e) (suc j)
padded_each (c ∷ cs) e (suc i) (suc j) l z =
    by_test (eqb c 0)
    (λ t. zero_each (c ∷ cs) (sym (starts_zero c cs t) ∙ e) (suc j))
    (λ t. padded_each cs (sym (starts_more c cs t) ∙ e) i j (omega arith) z)

each_padded : (m : List ℕ) → ((i j : ℕ) → i < j → get_or m i 0 ≡ 0 → get_or m j 0 ≡ 0) → padded m ≡ true
unfolding before zeros
each_padded [] h = refl
each_padded (c ∷ cs) h =
    by_test (eqb c 0)
    (λ t. starts_zero c cs t ∙ each_zero (c ∷ cs) (from_first (eqb-true c 0 t)))
    (λ t. starts_more c cs t ∙ each_padded cs (λ i j l z. h (suc i) (suc j) (omega arith) z))
  where
    from_first : c ≡ 0 → (j : ℕ) → get_or (c ∷ cs) j 0 ≡ 0
    from_first z zero = z
    from_first z (suc j) = h 0 (suc j) (omega arith) z

starts_right : (m : List ℕ) → leb 1 (length (before 0 m)) ≡ true → get_or m 0 0 ≡ 0 → ⊥
unfolding before
starts_right [] e z = clash e refl
starts_right (c ∷ cs) e z = clash e (rw (before-zero c cs (eq-eqb c 0 z)))

right_starts : (m : List ℕ) → (get_or m 0 0 ≡ 0 → ⊥) → leb 1 (length (before 0 m)) ≡ true
right_starts [] h = absurd (h refl)
right_starts (c ∷ cs) h = rw (before_more c cs (ne_eqb c 0 h)) (le-leb 1 (suc (length (before 0 cs))) (omega arith))

pub well_made_exactly : (m : List ℕ) → (well_made m ≡ true) ↔ RightlyMade m
well_made_exactly m = (
  (λ e.
      let p : (leb 1 (length (before 0 m)) ≡ true) × (padded m ≡ true) = both (leb 1 (length (before 0 m))) (padded m) e in
      record { starts = starts_right m p.0; padded = padded_each m p.1 }),
  (λ r. rw (right_starts m r.starts, each_padded m r.padded)),
)
