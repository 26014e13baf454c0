-- Starting clocks read entry by entry.
use Rattle.std.specs.Prelude.{Option, None, Some}
use Prim.Native.Nat.{ℕ, ◌+◌, ◌*◌, ◌^◌, ◌≤◌, ◌<◌}
use native.Mathlib.Numerals.{add-one}
use native.Mathlib.Omega.{arith}
use mathlib.Core.Path.{◌≡◌, refl, ap, sym, subst, ◌∙◌}
use mathlib.Core.List.{List, [], ◌∷◌, ◌++◌}
use lib.ListN.{length, take, drop, set, length-set, length-append, length-drop}
use lib.Seq.{append_snoc, take-suc-set}
use Rattle.rules.specs.Text.{space, fields}
use Rattle.rules.specs.Script.{◌>>=◌, numbers_of}
use Rattle.rules.proofs.Parts.{parts_front, parts-few}
use Rattle.text.specs.declared.Reading.{Reading}
use Rattle.text.specs.declared.Reading.TheVariants.{Last, Then}
use Rattle.text.specs.Reading.{Behind, ReadAt}
use Rattle.reading.specs.Starts.{Reads}

-- The numbers of a line from one place on, read up to another.
pub record Along (line : List ℕ) (from : ℕ) (starts : List ℕ) (at n : ℕ) : Type 0 where
  pub numbers : List ℕ
  pub left : numbers_of (fields (drop from line)) ≡ (numbers_of (fields (drop at line)) >>= λ ns. Some (numbers ++ ns))
  pub count : n ≡ length numbers
  pub kept : n ≤ 256 → take n starts ≡ numbers
  pub within : at ≤ length line
  pub counted : n + length (fields (drop at line)) ≤ length line + 1
  pub sized : length starts ≡ 256

pub along_none : (line : List ℕ) (from : ℕ) (starts : List ℕ) → from ≤ length line → length starts ≡ 256 → Along line from starts from 0
along_none line from starts h l =
    record {
      numbers = [];
      left = whole (numbers_of (fields (drop from line)));
      count = omega arith;
      kept = λ _. refl;
      within = h;
      counted = omega (arith, parts-few space (drop from line), length-drop from line);
      sized = l;
    }
  where
    whole : (o : Option (List ℕ)) → o ≡ (o >>= λ ns. Some ([] ++ ns))
    whole None = refl
    whole (Some ns) = refl

none_read : (line : List ℕ) (at : ℕ) → ReadAt line at None → numbers_of (fields (drop at line)) ≡ None
unfolding numbers_of
none_read line at p = rw (parts_front space (drop at line), p.says)

pub along_bad : (line : List ℕ) (at from : ℕ) (starts : List ℕ) (n : ℕ) → ReadAt line at None → Along line from starts at n → numbers_of (fields (drop from line)) ≡ None
along_bad line at from starts n p a = a.left ∙ rw (none_read line at p)

module _ (line : List ℕ) (at : ℕ) (r : Reading) (read : ReadAt line at (Some r)) where
  last-read : (x : ℕ) → r ≡ Last x → numbers_of (fields (drop at line)) ≡ Some (x ∷ [])
  unfolding numbers_of
  last-read x e = let p = rw e at read in rw (p.behind, p.says)

  then_read : (x next : ℕ) → r ≡ Then x next → numbers_of (fields (drop at line)) ≡ (numbers_of (fields (drop next line)) >>= λ ns. Some (x ∷ ns))
  unfolding numbers_of
  then_read x next e = let p = rw e at read in rw (p.behind.0, p.says)

  pub less_left : (x next : ℕ) → r ≡ Then x next → length (fields (drop next line)) < length (fields (drop at line))
  less_left x next e = let p = rw e at read in rw p.behind.0 (omega arith)

  module _ (from : ℕ) (starts : List ℕ) (n : ℕ) (a : Along line from starts at n) where
    -- a number more is counted
    pub count_fits : length line * 1 < 2 ^ 63 → n + 1 < 2 ^ 64
    count_fits h = omega (arith, a.counted)

    -- one number more
    module _ (x k : ℕ) (starts' : List ℕ) (w : starts' ≡ set starts n x) (o : k ≡ n + 1) where
      count_more : k ≡ length (a.numbers ++ x ∷ [])
      count_more = rw (length-append a.numbers (x ∷ [])) (omega (arith, a.count, o))

      kept_more : k ≤ 256 → take k starts' ≡ a.numbers ++ x ∷ []
      kept_more h = rw (o, add-one n, w, take-suc-set starts n x (omega (arith, a.sized)), a.kept (omega arith))

      sized-still : length starts' ≡ 256
      sized-still = rw (w, length-set) a.sized

      pub along_last : r ≡ Last x → Reads (numbers_of (fields (drop from line))) k starts'
      along_last e = record { numbers = a.numbers ++ x ∷ []; says = a.left ∙ rw (last-read x e); count = count_more; some_there = omega (arith, o); kept = kept_more; sized = sized-still }

      pub along_more : (next : ℕ) → r ≡ Then x next → Along line from starts' next k
      along_more next e =
          record {
            numbers = a.numbers ++ x ∷ [];
            left = a.left ∙ rw (then_read x next e) (regroup (numbers_of (fields (drop next line))));
            count = count_more;
            kept = kept_more;
            within = (subst (λ (q : Reading). Behind line at (Some q)) e read.behind).1;
            counted = omega (arith, o, a.counted, less_left x next e);
            sized = sized-still;
          }
        where
          regroup : (l : Option (List ℕ)) → ((l >>= λ ns. Some (x ∷ ns)) >>= λ ms. Some (a.numbers ++ ms)) ≡ (l >>= λ ms. Some (a.numbers ++ x ∷ [] ++ ms))
          regroup None = refl
          regroup (Some ms) = ap Some (sym (append_snoc a.numbers x ms))
