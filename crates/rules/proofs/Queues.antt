-- Laws on lists of slots: some element, membership, standing twice, the list without a slot.
use Prim.Native.Nat.{ℕ, zero, suc, ◌+◌, ◌≤◌, ◌<◌}
use native.Mathlib.Omega.{arith}
use mathlib.Core.Path.{◌≡◌, refl, sym, ap, subst, ◌∙◌}
use mathlib.Core.Bool.{Bool, true, false, ◌||◌, or_assoc, false≢true}
use mathlib.Core.List.{List, [], ◌∷◌, ◌++◌}
use borrow.Author.Tests.{eqb-true, eqb-false, eq-eqb, ne_eqb}
use lib.Dec.{eqb}
use lib.ListN.{length}
use Rattle.rules.specs.declared.Slot.{Slot}
use Rattle.rules.specs.State.{same_slot}
use Rattle.rules.specs.Scan.{without}
use Rattle.rules.specs.Broken.{any_of, member, twice, slots_from}
use Rattle.rules.proofs.Bools.{by_test, clash, neither, ◌nor◌, or_left, or_right, or_other}

-- Slots.

pub same-slot : (x y : Slot) → same_slot x y ≡ true → x ≡ y
same-slot x y e = λ i. record { 0 = eqb-true x.0 y.0 e i }

pub slot_same : (x y : Slot) → x ≡ y → same_slot x y ≡ true
slot_same x y e = eq-eqb x.0 y.0 (ap (λ (z : Slot). z.0) e)

pub same_itself : (x : Slot) → same_slot x x ≡ true
same_itself x = slot_same x x refl

pub apart_back : (x y : Slot) → same_slot x y ≡ false → same_slot y x ≡ false
apart_back x y e = ne_eqb y.0 x.0 (λ p. eqb-false x.0 y.0 e (sym p))

-- what holds of x, and of every slot apart from x, holds of every slot
pub by_slot : (X : Slot → Type 0) (x : Slot) → X x → ((y : Slot) → same_slot x y ≡ false → X y) → (y : Slot) → X y
by_slot X x h k y = by_test (same_slot x y) (λ e. subst X (same-slot x y e) h) (λ e. k y e)

-- Some element.

pub none_of : {A : Type 0} (p : A → Bool) (x : A) (l : List A) → any_of p (x ∷ l) ≡ false → (p x ≡ false) × (any_of p l ≡ false)
unfolding any_of
none_of p x l e = neither (p x) (any_of p l) e

pub any_append : {A : Type 0} (p : A → Bool) (k l : List A) → any_of p (k ++ l) ≡ any_of p k || any_of p l
unfolding any_of
any_append p [] l = refl
any_append p (x ∷ k) l = rw (any_append p k l) (sym (or_assoc (p x) (any_of p k) (any_of p l)))

-- a test that every member fails, and the other way round
pub no_member : (p : Slot → Bool) (q : List Slot) → ((x : Slot) → member x q ≡ true → p x ≡ false) → any_of p q ≡ false
unfolding any_of
no_member p [] h = refl
no_member p (y ∷ q) h =
    h y (or_left (same_slot y y) (member y q) (same_itself y))
    nor no_member p q (λ x e. h x (or_right (same_slot x y) (member x q) e))

pub member_fails : (p : Slot → Bool) (q : List Slot) → any_of p q ≡ false → (x : Slot) → member x q ≡ true → p x ≡ false
unfolding any_of
member_fails p [] h x e = absurd (false≢true e)
member_fails p (y ∷ q) h x e =
    let k = neither (p y) (any_of p q) h in
    by_test (same_slot x y)
    (λ f. subst (λ (z : Slot). p z ≡ false) (sym (same-slot x y f)) k.0)
    (λ f. member_fails p q k.1 x (or_other (same_slot x y) (member x q) e f))

-- the slots from i on
pub slot_fails : (p : Slot → Bool) (n i : ℕ) → any_of p (slots_from n i) ≡ false → (x : Slot) → i ≤ x.0 → x.0 < i + n → p x ≡ false
unfolding any_of slots_from
slot_fails p zero i h x l u = absurd (omega arith)
slot_fails p (suc n) i h x l u =
    let k = neither (p (record { 0 = i })) (any_of p (slots_from n (suc i))) h in
    by_test (eqb i x.0)
    (λ e. subst (λ (m : ℕ). p (record { 0 = m }) ≡ false) (eqb-true i x.0 e) k.0)
    (λ e. let d : i ≡ x.0 → ⊥ = eqb-false i x.0 e in slot_fails p n (suc i) k.1 x (omega arith) (omega arith))

pub no_slot : (p : Slot → Bool) (n i : ℕ) → ((x : Slot) → p x ≡ false) → any_of p (slots_from n i) ≡ false
unfolding any_of slots_from
no_slot p zero i h = refl
no_slot p (suc n) i h = h (record { 0 = i }) nor no_slot p n (suc i) h

-- Membership.

pub member_append : (x : Slot) (p q : List Slot) → member x (p ++ q) ≡ member x p || member x q
member_append x p q = any_append (same_slot x) p q

pub absent_empty : (x : Slot) (q : List Slot) → q ≡ [] → member x q ≡ false
unfolding any_of
absent_empty x q e = ap (λ (l : List Slot). member x l) e

-- one that stands in a list and one that does not are apart
pub member_apart : (x y : Slot) (q : List Slot) → member x q ≡ false → member y q ≡ true → same_slot x y ≡ false
member_apart x y q m n =
    by_test (same_slot x y) (λ e. clash (subst (λ (z : Slot). member z q ≡ true) (sym (same-slot x y e)) n) m) (λ e. e)

-- x stands in the middle
pub member_middle : (x : Slot) (p q : List Slot) → member x (p ++ x ∷ q) ≡ true
unfolding any_of
member_middle x p q = member_append x p (x ∷ q) ∙ or_right (member x p) _ (or_left (same_slot x x) (member x q) (same_itself x))

-- another slot at the end, and in front
pub member-behind : (y : Slot) (q : List Slot) (x : Slot) → same_slot x y ≡ false → member y (q ++ x ∷ []) ≡ member y q
unfolding any_of
member-behind y [] x e = rw (apart_back x y e)
member-behind y (z ∷ q) x e = rw (member-behind y q x e)

pub member-before : (y : Slot) (q : List Slot) (x : Slot) → same_slot x y ≡ false → member y (x ∷ q) ≡ member y q
unfolding any_of
member-before y q x e = rw (apart_back x y e)

-- Standing twice.

pub once-empty : (q : List Slot) → q ≡ [] → twice q ≡ false
unfolding twice
once-empty q e = ap (λ (l : List Slot). twice l) e

pub once_cons : (x : Slot) (q : List Slot) → member x q ≡ false → twice q ≡ false → twice (x ∷ q) ≡ false
unfolding twice
once_cons x q e f = e nor f

pub once_snoc : (q : List Slot) (x : Slot) → twice q ≡ false → member x q ≡ false → twice (q ++ x ∷ []) ≡ false
unfolding twice any_of
once_snoc [] x o e = refl
once_snoc (y ∷ q) x o e =
    let k = neither (member y q) (twice q) o in
    let a = neither (same_slot x y) (member x q) e in
    (member-behind y q x a.0 ∙ k.0) nor once_snoc q x k.1 a.1

-- where none stands twice, x stands neither before nor after itself
pub once_middle : (p : List Slot) (x : Slot) (q : List Slot) → twice (p ++ x ∷ q) ≡ false → (member x p ≡ false) × (member x q ≡ false)
unfolding twice any_of
once_middle [] x q o = (refl, (neither (member x q) (twice q) o).0)
once_middle (y ∷ p) x q o =
    let k = neither (member y (p ++ x ∷ q)) (twice (p ++ x ∷ q)) o in
    let r = once_middle p x q k.1 in
    let a = neither (member y p) (member y (x ∷ q)) (sym (member_append y p (x ∷ q)) ∙ k.0) in
    (apart_back y x (neither (same_slot y x) (member y q) a.1).0 nor r.0, r.1)

-- The list without a slot.

pub without-empty : (x : Slot) (q : List Slot) → q ≡ [] → without x q ≡ []
unfolding without
without-empty x q e = ap (λ (l : List Slot). without x l) e

pub without_absent : (x : Slot) (q : List Slot) → member x q ≡ false → without x q ≡ q
unfolding without any_of
without_absent x [] e = refl
without_absent x (y ∷ q) e =
    let k = neither (same_slot x y) (member x q) e in
    rw (k.0, without_absent x q k.1)

pub without_middle : (p : List Slot) (x : Slot) (q : List Slot) → member x p ≡ false → without x (p ++ x ∷ q) ≡ p ++ q
unfolding without any_of
without_middle [] x q e = rw (same_itself x)
without_middle (y ∷ p) x q e =
    let k = neither (same_slot x y) (member x p) e in
    rw (k.0, without_middle p x q k.1)

pub member-without : (y x : Slot) (q : List Slot) → same_slot x y ≡ false → member y (without x q) ≡ member y q
unfolding without any_of
member-without y x [] e = refl
member-without y x (z ∷ q) e =
    by_test (same_slot x z)
    (λ f. rw f (rw (subst (λ (k : Slot). same_slot y k ≡ false) (same-slot x z f) (apart_back x y e))))
    (λ f. rw (f, member-without y x q e))

pub gone_without : (x : Slot) (q : List Slot) → twice q ≡ false → member x (without x q) ≡ false
unfolding without any_of twice
gone_without x [] o = refl
gone_without x (z ∷ q) o =
    let k = neither (member z q) (twice q) o in
    by_test (same_slot x z)
    (λ f. rw f (subst (λ (y : Slot). member y q ≡ false) (sym (same-slot x z f)) k.0))
    (λ f. rw f (f nor gone_without x q k.1))

pub once-without : (x : Slot) (q : List Slot) → twice q ≡ false → twice (without x q) ≡ false
unfolding without any_of twice
once-without x [] o = refl
once-without x (z ∷ q) o =
    let k = neither (member z q) (twice q) o in
    by_test (same_slot x z)
    (λ f. rw f k.1)
    (λ f. rw f ((member-without z x q f ∙ k.0) nor once-without x q k.1))

pub length_without : (x : Slot) (q : List Slot) → member x q ≡ true → length q ≡ suc (length (without x q))
unfolding without any_of
length_without x [] e = absurd (false≢true e)
length_without x (z ∷ q) e =
    by_test (same_slot x z)
    (λ f. rw f)
    (λ f. rw f (ap suc (length_without x q (or_other (same_slot x z) (member x q) e f))))

-- A list of slots below n, none of them twice, has at most n.
pub pigeonhole : (n : ℕ) (q : List Slot) → twice q ≡ false → ((x : Slot) → member x q ≡ true → x.0 < n) → length q ≤ n
unfolding any_of
pigeonhole zero [] o h = omega arith
pigeonhole zero (x ∷ q) o h = let k = h x (or_left (same_slot x x) (member x q) (same_itself x)) in absurd (omega arith)
pigeonhole (suc n) q o h =
    let rest : length (without last q) ≤ n = pigeonhole n (without last q) (once-without last q o) below in
    by_test (member last q)
    (λ e. omega (arith, length_without last q e))
    (λ e. omega (arith, ap (λ (l : List Slot). length l) (without_absent last q e)))
  where
    last : Slot
    last = record { 0 = n }

    below : (y : Slot) → member y (without last q) ≡ true → y.0 < n
    below y e =
        by_test (same_slot last y)
        (λ f. clash (subst (λ (k : Slot). member k (without last q) ≡ true) (sym (same-slot last y f)) e) (gone_without last q o))
        (λ f.
        let d : n ≡ y.0 → ⊥ = eqb-false n y.0 f in
        let l = h y (sym (member-without y last q f) ∙ e) in
        omega arith)
