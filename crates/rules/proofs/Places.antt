-- Arrays seen through a function: their lengths, reads and stores; and the same of their first n places, with one place more. At any
-- element type.
use Prim.Native.Nat.{ℕ, zero, suc, ◌+◌, ◌≤◌, ◌<◌}
use native.Mathlib.Omega.{arith}
use native.Mathlib.Numerals.{add-one}
use mathlib.Core.Path.{◌≡◌, refl, sym, ap, ◌∙◌}
use mathlib.Core.List.{List, [], ◌∷◌, ◌++◌, map, map-append}
use lib.ListN.{length, get_or, set, take, length-take, length-map, get_or-eq_default}
use lib.Seq.{length-take-le, take_all, get_or-take, set_out, take-set-lt, take-suc-set}

module _ {A B : Type 0} (f : A → B) where
  -- the length of an array of structs, from what owning it tells
  pub unmap : (l : List A) (w : ℕ) → length (map f l) ≡ w → length l ≡ w
  unmap l w e = rw length-map at e

  pub map-set : (l : List A) (i : ℕ) (a : A) → map f (set l i a) ≡ set (map f l) i (f a)
  map-set [] i a = refl
  map-set (x ∷ l) zero a = refl
  map-set (x ∷ l) (suc i) a = ap (λ (r : List B). f x ∷ r) (map-set l i a)

  -- whatever stands past the end
  pub map-get_or : (l : List A) (i : ℕ) (a : A) (b : B) → i < length l → get_or (map f l) i b ≡ f (get_or l i a)
  map-get_or [] i a b h = absurd (omega arith)
  map-get_or (x ∷ l) zero a b h = refl
  map-get_or (x ∷ l) (suc i) a b h = map-get_or l i a b (omega arith)

-- the first n places
module _ {A B : Type 0} (f : A → B) (n : ℕ) (l : List A) where
  short : (i : ℕ) → n ≤ i → length (map f (take n l)) ≤ i
  short i h = simp (length-map, length-take) (omega arith)

  pub size-within : (w : ℕ) → length l ≡ w → n ≤ w → n ≡ length (map f (take n l))
  size-within w e h = sym (length-map (take n l) f ∙ length-take-le n l (omega arith))

  pub size_past : (w : ℕ) → length l ≡ w → w < n → w ≡ length (map f (take n l))
  size_past w e h = sym (length-map (take n l) f ∙ (rw (take_all n l (omega arith)) e))

  pub read_at : (i w : ℕ) (a : A) (b : B) → i < n → i < w → length l ≡ w → f (get_or l i a) ≡ get_or (map f (take n l)) i b
  read_at i w a b h k e = sym (map-get_or f (take n l) i a b (simp length-take (omega arith)) ∙ ap f (get_or-take n l i a h))

  pub read_past : (i : ℕ) (b c : B) → c ≡ b → n ≤ i → c ≡ get_or (map f (take n l)) i b
  read_past i b c e h = rw (e, get_or-eq_default (map f (take n l)) b (short i h))

  pub read-beyond : (i w : ℕ) (b c : B) → c ≡ b → length l ≡ w → w ≤ i → c ≡ get_or (map f (take n l)) i b
  read-beyond i w b c e k h = rw (e, get_or-eq_default (map f (take n l)) b {n = i} (simp (length-map, length-take) (omega arith)))

  pub store_past : (i : ℕ) (b : B) → n ≤ i → map f (take n l) ≡ set (map f (take n l)) i b
  store_past i b h = sym (set_out (map f (take n l)) i b (short i h))

  pub store_at : (i : ℕ) (a : A) → i < n → map f (take n (set l i a)) ≡ set (map f (take n l)) i (f a)
  store_at i a h = rw (take-set-lt n l i a h) (map-set f (take n l) i a)

  pub store-next : (w : ℕ) (a : A) → n < w → length l ≡ w → map f (take (n + 1) (set l n a)) ≡ map f (take n l) ++ f a ∷ []
  store-next w a h e = rw (add-one, take-suc-set l n a (omega arith)) (map-append f (take n l) (a ∷ []))
