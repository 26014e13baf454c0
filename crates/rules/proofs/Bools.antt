-- Going by cases on a test.
use Prim.Native.Nat.{ℕ, ◌<◌}
use native.Mathlib.Omega.{arith}
use mathlib.Core.Path.{◌≡◌, refl, sym, ap, ◌∙◌}
use mathlib.Core.Bool.{Bool, true, false, cond, not, ◌&&◌, ◌||◌, beq, true≢false, false≢true}
use borrow.Author.Tests.{eqb-false, ne_eqb}
use lib.Dec.{eqb}

-- what holds of both ways out of a test holds of the test
pub by_cond {ℓ} : {A : Type ℓ} (X : A → Type 0) (b : Bool) {x y : A} → (b ≡ true → X x) → (b ≡ false → X y) → X (cond b x y)
by_cond X true f g = f refl
by_cond X false f g = g refl

-- the two ways of a test
pub by_test : {X : Type 0} (b : Bool) → (b ≡ true → X) → (b ≡ false → X) → X
by_test true f g = f refl
by_test false f g = g refl

pub clash : {X : Type 0} {b : Bool} → b ≡ true → b ≡ false → X
clash p q = absurd (true≢false (sym p ∙ q))

-- no disjunct holds, and the other way round
pub neither : (x y : Bool) → x || y ≡ false → (x ≡ false) × (y ≡ false)
neither true y e = absurd (true≢false e)
neither false y e = (refl, e)

infixl 30 ◌nor◌
pub ◌nor◌ : {x y : Bool} → x ≡ false → y ≡ false → x || y ≡ false
◌nor◌ {x} {y} e f = rw (e, f)

pub both : (x y : Bool) → x && y ≡ true → (x ≡ true) × (y ≡ true)
both true y e = (refl, e)
both false y e = absurd (false≢true e)

pub or_left : (x y : Bool) → x ≡ true → x || y ≡ true
or_left x y e = rw e

pub or_right : (x y : Bool) → y ≡ true → x || y ≡ true
or_right true y e = refl
or_right false y e = e

-- where the first disjunct fails, the second holds
pub or_other : (x y : Bool) → x || y ≡ true → x ≡ false → y ≡ true
or_other x y e f = sym (ap (λ (b : Bool). b || y) f) ∙ e

pub not_both : (x y : Bool) → (x ≡ true → y ≡ false) → x && y ≡ false
not_both true y f = f refl
not_both false y f = refl

-- where the first conjunct holds, and not both do, the second fails
pub and_other : (x y : Bool) → x && y ≡ false → x ≡ true → y ≡ false
and_other x y e f = sym (ap (λ (b : Bool). b && y) f) ∙ e

pub is_not-not : (b : Bool) → b ≡ true → not b ≡ false
is_not-not b e = rw e

pub beq_same : (x y : Bool) → beq x y ≡ true → x ≡ y
beq_same true true e = refl
beq_same true false e = absurd (false≢true e)
beq_same false true e = absurd (false≢true e)
beq_same false false e = refl

pub same_beq : (x y : Bool) → x ≡ y → beq x y ≡ true
same_beq true true e = refl
same_beq true false e = absurd (true≢false e)
same_beq false true e = absurd (false≢true e)
same_beq false false e = refl

-- a number is 0, or positive
pub positive : (n : ℕ) → eqb n 0 ≡ false → 0 < n
positive n e = let d : n ≡ 0 → ⊥ = eqb-false n 0 e in omega arith

pub not-zero : (n : ℕ) → 0 < n → eqb n 0 ≡ false
not-zero n h = ne_eqb n 0 (λ e. omega arith)
