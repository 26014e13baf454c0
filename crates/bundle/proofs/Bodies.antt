-- Lengths added up, and the body of a script where they say that it stands.
use Prim.Native.Nat.{ℕ, zero, suc, ◌+◌, ◌-◌, ◌*◌, ◌≤◌, ◌<◌}
use native.Mathlib.Nat.{add-sub_cancel_left}
use native.Mathlib.Numerals.{add-one}
use native.Mathlib.Omega.{arith}
use mathlib.Core.Path.{◌≡◌, refl, sym, ap, ◌∙◌}
use mathlib.Core.List.{List, [], ◌∷◌}
use borrow.Author.Tests.{lt-ltb, le-ltb, le-leb, lt-leb, leb-true, leb-false}
use lib.Dec.{leb, ltb}
use lib.ListN.{length, get_or, take, drop, length-drop, length-append, drop_of_length-le}
use lib.Seq.{drop-cons, length-take-le, drop-drop, take-take, get_or-take, take-append_seam, drop-append-add}
use Rattle.rules.proofs.Bools.{by_test}
use Rattle.bundle_rules.specs.Bundled.{most_scripts, contents_length, Entry, bodies, entry_sizes}
use Rattle.bundle.specs.declared.Contents.{Contents}
use Rattle.bundle.specs.Contents.{Holds, sum_of, Sums, start_of, body_at}

pub sum-next : (xs : List ℕ) (i total whole : ℕ) → i < length xs → total + sum_of (drop i xs) ≡ whole → total + get_or xs i 0 + sum_of (drop (i + 1) xs) ≡ whole
unfolding sum_of
sum-next xs i total whole h so_far =
    let next : sum_of (drop i xs) ≡ get_or xs i 0 + sum_of (drop (i + 1) xs) = rw (add-one, drop-cons xs i 0 h) in
    omega arith

pub sum_all : (ls : List ℕ) (n i total : ℕ) → n ≤ 256 → length ls ≡ 256 → i ≤ length (take n ls) → length (take n ls) ≤ i → total ≤ 4294967296 * i → total + sum_of (drop i (take n ls)) ≡ sum_of (take n ls) → Sums ls n total
unfolding sum_of
sum_all ls n i total b l h k t e =
    let none : drop i (take n ls) ≡ [] = drop_of_length-le (take n ls) k in
    record { value = omega (arith, rw none at e); bound = omega (arith, length-take-le n ls (omega arith)) }

-- What `body` answers.

module _ (c : Contents) (s : List ℕ) (i : ℕ) where
  pub none_of_many : most_scripts < c.count → [] ≡ body_at c s i
  unfolding body_at
  none_of_many h =
      by_test (ltb i c.count) (λ e. rw (e, lt-leb c.count most_scripts h)) (λ e. rw e)

  pub none_such : c.count ≤ i → [] ≡ body_at c s i
  unfolding body_at
  none_such h = rw (le-ltb i c.count h)

  pub none_so_far : (start : ℕ) → i < c.count → c.count ≤ most_scripts → start ≡ start_of c i → length s < start + get_or c.lengths i 0 → [] ≡ body_at c s i
  unfolding body_at
  none_so_far start h l e k = rw (lt-ltb i c.count h, le-leb c.count most_scripts l, lt-leb (start_of c i + get_or c.lengths i 0) (length s) (rw e at k))

  pub body_here : (start : ℕ) → i < c.count → c.count ≤ most_scripts → start ≡ start_of c i → start + get_or c.lengths i 0 ≤ length s → take (start + get_or c.lengths i 0 - start) (drop start s) ≡ body_at c s i
  unfolding body_at
  body_here start h l e k = rw (e, add-sub_cancel_left (start_of c i) (get_or c.lengths i 0), lt-ltb i c.count h, le-leb c.count most_scripts l, le-leb (start_of c i + get_or c.lengths i 0) (length s) (rw e at k))

-- THE BODY OF A SCRIPT is that of the i-th entry.

size_of : (es : List Entry) (i : ℕ) (d : Entry) → i < length es → get_or (entry_sizes es) i 0 ≡ length (get_or es i d).body
unfolding entry_sizes
size_of [] i d h = absurd (omega arith)
size_of (e ∷ es) zero d h = refl
size_of (e ∷ es) (suc i) d h = size_of es i d (omega arith)

-- the body stands behind those before it, and they with it are no longer than all
cut_out : (es : List Entry) (i : ℕ) (d : Entry) → i < length es → take (length (get_or es i d).body) (drop (sum_of (take i (entry_sizes es))) (bodies es)) ≡ (get_or es i d).body
unfolding entry_sizes sum_of bodies
cut_out [] i d h = absurd (omega arith)
cut_out (e ∷ es) zero d h = take-append_seam e.body (bodies es)
cut_out (e ∷ es) (suc i) d h = rw (drop-append-add e.body (bodies es) (sum_of (take i (entry_sizes es)))) (cut_out es i d (omega arith))

within : (es : List Entry) (i : ℕ) (d : Entry) → i < length es → sum_of (take i (entry_sizes es)) + length (get_or es i d).body ≤ length (bodies es)
unfolding entry_sizes sum_of bodies
within [] i d h = absurd (omega arith)
within (e ∷ es) zero d h = rw length-append (omega arith)
within (e ∷ es) (suc i) d h = rw length-append (omega (arith, within es i d (omega arith)))

nothing : (l : List ℕ) → length l ≤ 0 → [] ≡ l
nothing [] h = refl
nothing (x ∷ l) h = absurd (omega arith)

module _ (c : Contents) (s : List ℕ) (es : List Entry) (h : Holds c (drop (contents_length c.count) s) es) (few : length es ≤ most_scripts) (i : ℕ) (d : Entry) (l : i < length es) where
  before_it : sum_of (take i c.lengths) ≡ sum_of (take i (entry_sizes es))
  before_it = rw (← h.sizes, take-take i c.count c.lengths (omega (arith, h.count)))

  its_size : get_or c.lengths i 0 ≡ length (get_or es i d).body
  its_size = sym (get_or-take c.count c.lengths i 0 (omega (arith, h.count))) ∙ rw h.sizes (size_of es i d l)

  ends : length s - contents_length c.count ≡ length (bodies es)
  ends = sym (length-drop (contents_length c.count) s) ∙ ap length h.whole

  pub body_of : body_at c s i ≡ (get_or es i d).body
  body_of =
      by_test (leb (start_of c i + get_or c.lengths i 0) (length s))
      (λ t. sym (body_here c s i (start_of c i) (omega (arith, h.count)) (omega (arith, h.count)) refl (leb-true (start_of c i + get_or c.lengths i 0) (length s) t))
      ∙ rw (add-sub_cancel_left (start_of c i) (get_or c.lengths i 0), its_size, before_it, ← drop-drop (sum_of (take i (entry_sizes es))) (contents_length c.count) s, h.whole) (cut_out es i d l))
      (λ t. sym (none_so_far c s i (start_of c i) (omega (arith, h.count)) (omega (arith, h.count)) refl (leb-false (start_of c i + get_or c.lengths i 0) (length s) t))
      ∙ nothing (get_or es i d).body (omega (arith, leb-false (start_of c i + get_or c.lengths i 0) (length s) t, its_size, before_it, ends, within es i d l)))
