-- The rows of a table, one after the other from a place on.
use Prim.Native.Nat.{ℕ, zero, suc, ◌+◌, ◌-◌, ◌*◌, ◌≤◌, ◌<◌}
use native.Mathlib.Nat.{add-sub_cancel_left}
use native.Mathlib.Numerals.{add-one}
use native.Mathlib.Omega.{arith}
use mathlib.Core.Path.{◌≡◌, refl, sym, ap, ◌∙◌}
use mathlib.Core.Bool.{Bool, false}
use mathlib.Core.List.{List, [], ◌∷◌, ◌++◌, append_assoc, append-nil}
use borrow.Author.Tests.{eq-eqb, ne_eqb}
use lib.Dec.{eqb}
use lib.ListN.{length, take, drop, set, length-drop, take-append-drop}
use lib.Seq.{drop-drop, take-suc-set, append_snoc, take_at, drop_at, length-take-le}
use Rattle.text.specs.Writing.{Appended}
use Rattle.text.proofs.Buffer.{appended_first}
use Rattle.bundle_rules.specs.Numbers.{NumberAt}
use Rattle.bundle_rules.specs.Reading.{row_of, rows_of, names_of, sizes_of, in_order}
use Rattle.bundle.specs.Contents.{stretches}

pub rows_next : (s : List ℕ) (n i : ℕ) → i < n → rows_of (n - i) (drop (4 + 24 * i) s) ≡ row_of (drop (4 + 24 * i) s) ∷ rows_of (n - (i + 1)) (drop (4 + 24 * (i + 1)) s)
unfolding rows_of
rows_next s n i h =
    let k : n - i ≡ suc (n - (i + 1)) = omega arith in
    let d : drop 24 (drop (4 + 24 * i) s) ≡ drop (4 + 24 * (i + 1)) s =
    drop-drop 24 (4 + 24 * i) s ∙ ap (λ (m : ℕ). drop m s) {x = 4 + 24 * i + 24} {y = 4 + 24 * (i + 1)} (omega arith) in
    rw (k, d)

-- Lengths.

pub size_here : (s ls₀ ls whole : List ℕ) (n i v : ℕ) → i < n → n ≤ 256 → length ls₀ ≡ 256 → length ls ≡ length ls₀ → NumberAt s (4 + 24 * i + 20) v → take i ls ++ sizes_of (rows_of (n - i) (drop (4 + 24 * i) s)) ≡ whole → take (i + 1) (set ls i v) ++ sizes_of (rows_of (n - (i + 1)) (drop (4 + 24 * (i + 1)) s)) ≡ whole
unfolding sizes_of
size_here s ls₀ ls whole n i v h b k₀ k q e =
    let l : i < length ls = omega arith in
    let more : sizes_of (rows_of (n - i) (drop (4 + 24 * i) s)) ≡ v ∷ sizes_of (rows_of (n - (i + 1)) (drop (4 + 24 * (i + 1)) s)) =
    rw (rows_next s n i h, drop-drop 20 (4 + 24 * i) s, ← q.value) in
    let first : take (i + 1) (set ls i v) ≡ take i ls ++ (v ∷ []) = rw add-one (take-suc-set ls i v l) in
    rw first (append_snoc (take i ls) v _ ∙ ap (λ (r : List ℕ). take i ls ++ r) (sym more) ∙ e)

pub sizes_all : (s ls whole : List ℕ) (n i : ℕ) → i ≤ n → n ≤ i → take i ls ++ sizes_of (rows_of (n - i) (drop (4 + 24 * i) s)) ≡ whole → take n ls ≡ whole
unfolding sizes_of rows_of
sizes_all s ls whole n i l h e =
    let k : n - i ≡ 0 = omega arith in
    let j : i ≡ n = omega arith in
    sym (append-nil (take n ls)) ∙ rw (k, j) at e

-- Names, one behind the other.

unfoldable pub joined : List (List ℕ) → List ℕ
joined [] = []
joined (m ∷ ms) = m ++ joined ms

pub name-length : (s : List ℕ) (at : ℕ) → at + 16 ≤ length s → length (take (at + 16 - at) (drop at s)) ≡ 16
name-length s at h = rw (add-sub_cancel_left at 16) (length-take-le 16 (drop at s) (rw length-drop (omega arith)))

pub name_here : (s old₀ old new whole : List ℕ) (n i q : ℕ) → i < n → n ≤ 256 → length old₀ ≡ 4096 → length old ≡ length old₀ → 4 + 24 * n ≤ length s → Appended old (16 * i) (take (4 + 24 * i + 16 - (4 + 24 * i)) (drop (4 + 24 * i) s)) new q → take (16 * i) old ++ joined (names_of (rows_of (n - i) (drop (4 + 24 * i) s))) ≡ whole → take (16 * (i + 1)) new ++ joined (names_of (rows_of (n - (i + 1)) (drop (4 + 24 * (i + 1)) s))) ≡ whole
unfolding names_of joined
name_here s old₀ old new whole n i q h b k₀ k f p e =
    let name = take (4 + 24 * i + 16 - (4 + 24 * i)) (drop (4 + 24 * i) s) in
    let rest = joined (names_of (rows_of (n - (i + 1)) (drop (4 + 24 * (i + 1)) s))) in
    let n16 : length name ≡ 16 = name-length s (4 + 24 * i) (omega arith) in
    let l : 16 * i + length name ≤ length old = omega (arith, n16) in
    let at : 16 * (i + 1) ≡ q = omega (arith, p.end, n16) in
    let more : joined (names_of (rows_of (n - i) (drop (4 + 24 * i) s))) ≡ name ++ rest =
    rw (rows_next s n i h, add-sub_cancel_left (4 + 24 * i) 16) in
    rw (at, appended_first p l)
    (append_assoc (take (16 * i) old) name rest ∙ ap (λ (r : List ℕ). take (16 * i) old ++ r) (sym more) ∙ e)

stretched : (n : ℕ) (t rest : List ℕ) → 24 * n ≤ length t → stretches 16 n (joined (names_of (rows_of n t)) ++ rest) ≡ names_of (rows_of n t)
unfolding stretches rows_of names_of joined
stretched zero t rest h = refl
stretched (suc n) t rest h =
    let l : length (take 16 t) ≡ 16 = length-take-le 16 t (omega arith) in
    let g : 24 * n ≤ length (drop 24 t) = rw length-drop (omega arith) in
    let a : (take 16 t ++ joined (names_of (rows_of n (drop 24 t)))) ++ rest ≡ take 16 t ++ (joined (names_of (rows_of n (drop 24 t))) ++ rest) =
    append_assoc (take 16 t) (joined (names_of (rows_of n (drop 24 t)))) rest in
    rw (a, take_at (take 16 t) (joined (names_of (rows_of n (drop 24 t))) ++ rest) 16 l, drop_at (take 16 t) (joined (names_of (rows_of n (drop 24 t))) ++ rest) 16 l, stretched n (drop 24 t) rest g)

pub names_all : (s ms : List ℕ) (n i : ℕ) → i ≤ n → n ≤ i → 4 + 24 * n ≤ length s → take (16 * i) ms ++ joined (names_of (rows_of (n - i) (drop (4 + 24 * i) s))) ≡ joined (names_of (rows_of n (drop 4 s))) → stretches 16 n ms ≡ names_of (rows_of n (drop 4 s))
unfolding rows_of names_of joined
names_all s ms n i l h f e =
    let k : n - i ≡ 0 = omega arith in
    let g : 24 * n ≤ length (drop 4 s) = rw length-drop (omega arith) in
    let t : take (16 * i) ms ≡ joined (names_of (rows_of n (drop 4 s))) = sym (append-nil (take (16 * i) ms)) ∙ rw k at e in
    let w : ms ≡ joined (names_of (rows_of n (drop 4 s))) ++ drop (16 * i) ms = sym (take-append-drop (16 * i) ms) ∙ ap (λ (r : List ℕ). r ++ drop (16 * i) ms) t in
    ap (stretches 16 n) w ∙ stretched n (drop 4 s) (drop (16 * i) ms) g

-- Bodies one behind the other.

module _ (s : List ℕ) (n i end len : ℕ) (whole : Bool) (so_far : in_order end (rows_of (n - i) (drop (4 + 24 * i) s)) len ≡ whole) where
  pub body_elsewhere : (v x : ℕ) → i < n → NumberAt s (4 + 24 * i + 16) v → x ≡ v → (x ≡ end → ⊥) → false ≡ whole
  unfolding in_order
  body_elsewhere v x h q k e =
      sym (rw (rows_next s n i h, drop-drop 16 (4 + 24 * i) s, ← q.value, ← k, ne_eqb x end e)) ∙ so_far

  pub body-there : (v u : ℕ) → i < n → NumberAt s (4 + 24 * i + 16) v → v ≡ end → NumberAt s (4 + 24 * i + 20) u → in_order (end + u) (rows_of (n - (i + 1)) (drop (4 + 24 * (i + 1)) s)) len ≡ whole
  unfolding in_order
  body-there v u h q e p =
      sym (rw (rows_next s n i h, drop-drop 16 (4 + 24 * i) s, drop-drop 20 (4 + 24 * i) s, ← q.value, ← p.value, eq-eqb v end e)) ∙ so_far

  pub bodies-end : n ≤ i → eqb end len ≡ whole
  unfolding in_order rows_of
  bodies-end h =
      let k : n - i ≡ 0 = omega arith in
      sym (rw k) ∙ so_far
