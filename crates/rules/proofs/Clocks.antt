-- Laws of clocks, at any width: a join is the least clock above both, commutative, associative and idempotent.
use Prim.Native.Nat.{ℕ, suc, ◌≤◌, max}
use native.Mathlib.Nat.{max_comm, max-eq_left, le-max_left, le-max_right, max-le, le_refl, le_trans, le_antisymm, suc_inj}
use native.Mathlib.Omega.{arith}
use mathlib.Core.Path.{◌≡◌, refl, ap}
use mathlib.Core.List.{[], ◌∷◌}
use lib.ListN.{length, length-replicate}
use Rattle.rules.specs.Clock.{Clock, join, empty}

-- as wide, and no entry larger: the order of clocks
infix 50 ◌⊑◌
unfoldable pub ◌⊑◌ : Clock → Clock → Type 0
[] ⊑ [] = Unit {0}
[] ⊑ (y ∷ d) = ⊥
(x ∷ c) ⊑ [] = ⊥
(x ∷ c) ⊑ (y ∷ d) = (x ≤ y) × (c ⊑ d)

pub at_most_itself : (c : Clock) → c ⊑ c
unfolding ◌⊑◌
at_most_itself [] = tt
at_most_itself (x ∷ c) = (le_refl x, at_most_itself c)

-- a join is as wide as its first clock; so is a tick; and the empty clock has its width
pub length-join : (c d : Clock) → length (join c d) ≡ length c
unfolding join
length-join [] d = refl
length-join (x ∷ c) [] = refl
length-join (x ∷ c) (y ∷ d) = ap suc (length-join c d)

pub length-empty : (w : ℕ) → length (empty w) ≡ w
unfolding empty
length-empty w = length-replicate w 0

-- above both
pub join_above : (c d : Clock) → length c ≡ length d → (c ⊑ join c d) × (d ⊑ join c d)
unfolding join ◌⊑◌
join_above [] [] e = (tt, tt)
join_above [] (y ∷ d) e = absurd (omega arith)
join_above (x ∷ c) [] e = absurd (omega arith)
join_above (x ∷ c) (y ∷ d) e =
    let r = join_above c d (suc_inj e) in
    ((le-max_left x y, r.0), (le-max_right x y, r.1))

-- and the least such
pub join-least : (c d u : Clock) → c ⊑ u → d ⊑ u → join c d ⊑ u
unfolding join ◌⊑◌
join-least [] d u h k = h
join-least (x ∷ c) [] u h k = h
join-least (x ∷ c) (y ∷ d) [] h k = h
join-least (x ∷ c) (y ∷ d) (z ∷ u) h k = (max-le h.0 k.0, join-least c d u h.1 k.1)

pub join_commutes : (c d : Clock) → length c ≡ length d → join c d ≡ join d c
unfolding join
join_commutes [] [] e = refl
join_commutes [] (y ∷ d) e = absurd (omega arith)
join_commutes (x ∷ c) [] e = absurd (omega arith)
join_commutes (x ∷ c) (y ∷ d) e = rw (max_comm x y, join_commutes c d (suc_inj e))

max_assoc : (x y z : ℕ) → max (max x y) z ≡ max x (max y z)
max_assoc x y z =
    le_antisymm
    (max-le (max-le (le-max_left x (max y z)) (le_trans (le-max_left y z) (le-max_right x (max y z)))) (le_trans (le-max_right y z) (le-max_right x (max y z))))
    (max-le (le_trans (le-max_left x y) (le-max_left (max x y) z)) (max-le (le_trans (le-max_right x y) (le-max_left (max x y) z)) (le-max_right (max x y) z)))

pub join_associates : (c d e : Clock) → length c ≡ length d → length d ≡ length e → join (join c d) e ≡ join c (join d e)
unfolding join
join_associates [] d e p q = refl
join_associates (x ∷ c) [] e p q = absurd (omega arith)
join_associates (x ∷ c) (y ∷ d) [] p q = absurd (omega arith)
join_associates (x ∷ c) (y ∷ d) (z ∷ e) p q = rw (max_assoc x y z, join_associates c d e (suc_inj p) (suc_inj q))

pub join_itself : (c : Clock) → join c c ≡ c
unfolding join
join_itself [] = refl
join_itself (x ∷ c) = rw (max-eq_left (le_refl x), join_itself c)
