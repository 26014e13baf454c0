-- Parts, fields and lines, read from the front: the first one, and what stands behind it.
use Prim.Native.Nat.{ℕ, suc, ◌+◌, ◌≤◌, ◌<◌, zero-le, suc-le-suc}
use native.Mathlib.Omega.{arith}
use mathlib.Core.Path.{◌≡◌, refl, ap, ◌∙◌}
use mathlib.Core.Bool.{Bool, true, false, cond}
use mathlib.Core.List.{List, [], ◌∷◌, ◌++◌}
use lib.Dec.{eqb}
use lib.ListN.{length, take, drop, length-drop, drop_of_length-le}
use lib.Seq.{drop-drop}
use borrow.Author.Tests.{eqb-true, eq-eqb}
use Rattle.rules.specs.Promises.{Each}
use Rattle.rules.specs.Text.{line_feed, on_first, parts, joined_by, before, lines_of, lines}

pub before-length : (b : ℕ) (s : List ℕ) → length (before b s) ≤ length s
unfolding before
before-length b [] = zero-le
before-length b (c ∷ cs) = by_test (eqb c b) (before-length b cs)
  where
    by_test : (t : Bool) → length (before b cs) ≤ length cs → length (cond t [] (c ∷ before b cs)) ≤ suc (length cs)
    by_test true h = zero-le
    by_test false h = suc-le-suc h

-- the first part is what the bytes begin with
pub before-take : (b : ℕ) (s : List ℕ) → take (length (before b s)) s ≡ before b s
unfolding before
before-take b [] = refl
before-take b (c ∷ cs) = by_test (eqb c b) (before-take b cs)
  where
    by_test : (t : Bool) → take (length (before b cs)) cs ≡ before b cs → take (length (cond t [] (c ∷ before b cs))) (c ∷ cs) ≡ cond t [] (c ∷ before b cs)
    by_test true h = refl
    by_test false h = ap (λ (l : List ℕ). c ∷ l) h

-- where a b follows the first part, the other parts are those behind it
pub parts_more : (b : ℕ) (s : List ℕ) → length (before b s) < length s → parts b s ≡ before b s ∷ parts b (drop (suc (length (before b s))) s)
unfolding before parts
parts_more b [] h = absurd (omega arith)
parts_more b (c ∷ cs) h = by_test (eqb c b) (parts_more b cs) h
  where
    by_test : (t : Bool)
        → (length (before b cs) < length cs → parts b cs ≡ before b cs ∷ parts b (drop (suc (length (before b cs))) cs))
        → length (cond t [] (c ∷ before b cs)) < suc (length cs)
        → cond t ([] ∷ parts b cs) (on_first c (parts b cs)) ≡ cond t [] (c ∷ before b cs) ∷ parts b (drop (length (cond t [] (c ∷ before b cs))) cs)
    by_test true r l = refl
    by_test false r l = ap (on_first c) (r (omega arith))

-- where none does, it is the only part
pub parts_last : (b : ℕ) (s : List ℕ) → length s ≤ length (before b s) → parts b s ≡ before b s ∷ []
unfolding before parts
parts_last b [] h = refl
parts_last b (c ∷ cs) h = by_test (eqb c b) (parts_last b cs) h
  where
    by_test : (t : Bool)
        → (length cs ≤ length (before b cs) → parts b cs ≡ before b cs ∷ [])
        → suc (length cs) ≤ length (cond t [] (c ∷ before b cs))
        → cond t ([] ∷ parts b cs) (on_first c (parts b cs)) ≡ cond t [] (c ∷ before b cs) ∷ []
    by_test true r l = absurd (omega arith)
    by_test false r l = ap (on_first c) (r (omega arith))

-- there is always a part
pub parts_front : (b : ℕ) (s : List ℕ) → parts b s ≡ before b s ∷ drop 1 (parts b s)
unfolding before parts
parts_front b [] = refl
parts_front b (c ∷ cs) = by_test (eqb c b) (parts_front b cs)
  where
    by_test : (t : Bool) → parts b cs ≡ before b cs ∷ drop 1 (parts b cs) → cond t ([] ∷ parts b cs) (on_first c (parts b cs)) ≡ cond t [] (c ∷ before b cs) ∷ drop 1 (cond t ([] ∷ parts b cs) (on_first c (parts b cs)))
    by_test true r = refl
    by_test false r = rw r

-- at most one part more than there are bytes
pub parts-few : (b : ℕ) (s : List ℕ) → length (parts b s) ≤ length s + 1
unfolding parts
parts-few b [] = omega arith
parts-few b (c ∷ cs) = by_test (eqb c b) (parts-few b cs)
  where
    grown : (ps : List (List ℕ)) → length (on_first c ps) ≤ length ps + 1
    grown [] = omega arith
    grown (p ∷ ps) = omega arith

    by_test : (t : Bool) → length (parts b cs) ≤ length cs + 1 → length (cond t ([] ∷ parts b cs) (on_first c (parts b cs))) ≤ suc (length cs) + 1
    by_test true h = omega (arith, h)
    by_test false h = omega (arith, h, grown (parts b cs))

-- Joined again, the parts are the bytes that they were taken from.
joined_hit : (b : ℕ) (s : List ℕ) → joined_by b ([] ∷ parts b s) ≡ b ∷ joined_by b (parts b s)
unfolding joined_by
joined_hit b s = rw (parts_front b s)

joined_miss : (b c : ℕ) (ps : List (List ℕ)) → joined_by b (on_first c ps) ≡ c ∷ joined_by b ps
unfolding joined_by
joined_miss b c [] = refl
joined_miss b c (p ∷ []) = refl
joined_miss b c (p ∷ q ∷ ps) = refl

pub joined-parts : (b : ℕ) (s : List ℕ) → joined_by b (parts b s) ≡ s
unfolding parts joined_by
joined-parts b [] = refl
joined-parts b (c ∷ cs) = by_test (eqb c b) refl (joined-parts b cs)
  where
    by_test : (t : Bool) → eqb c b ≡ t → joined_by b (parts b cs) ≡ cs → joined_by b (cond t ([] ∷ parts b cs) (on_first c (parts b cs))) ≡ c ∷ cs
    by_test true e r = joined_hit b cs ∙ rw (r, eqb-true c b e)
    by_test false e r = joined_miss b c (parts b cs) ∙ rw r

-- No part has the byte that parts them.
abbrev pub Free : ℕ → List (List ℕ) → Type 0
Free b ps = Each (λ (p : List ℕ). before b p ≡ p) ps

free_miss : (b c : ℕ) (ps : List (List ℕ)) → eqb c b ≡ false → Free b ps → Free b (on_first c ps)
unfolding before
free_miss b c [] e h = (rw e, tt)
free_miss b c (p ∷ ps) e h = (rw e (ap (λ (q : List ℕ). c ∷ q) h.0), h.1)

pub parts_free : (b : ℕ) (s : List ℕ) → Free b (parts b s)
unfolding parts before
parts_free b [] = (refl, tt)
parts_free b (c ∷ cs) = by_test (eqb c b) refl (parts_free b cs)
  where
    by_test : (t : Bool) → eqb c b ≡ t → Free b (parts b cs) → Free b (cond t ([] ∷ parts b cs) (on_first c (parts b cs)))
    by_test true e h = (refl, h)
    by_test false e h = free_miss b c (parts b cs) e h

-- The parts before a b, then those behind it.
on-first_append : (b c : ℕ) (s : List ℕ) (ps : List (List ℕ)) → on_first c (parts b s ++ ps) ≡ on_first c (parts b s) ++ ps
on-first_append b c s ps = rw (parts_front b s)

pub parts_append : (b : ℕ) (s t : List ℕ) → parts b (s ++ b ∷ t) ≡ parts b s ++ parts b t
unfolding parts
parts_append b [] t = rw (eq-eqb b b refl)
parts_append b (c ∷ s) t = rw (parts_append b s t) (by_test (eqb c b))
  where
    by_test : (h : Bool) → cond h ([] ∷ (parts b s ++ parts b t)) (on_first c (parts b s ++ parts b t)) ≡ cond h ([] ∷ parts b s) (on_first c (parts b s)) ++ parts b t
    by_test true = refl
    by_test false = on-first_append b c s (parts b t)

-- Texts that do not have the byte are the parts of what they are joined to.
parts-alone : (b : ℕ) (p : List ℕ) → before b p ≡ p → parts b p ≡ p ∷ []
parts-alone b p e = parts_last b p (omega (arith, ap length e)) ∙ rw e

pub parts-joined : (b : ℕ) (p : List ℕ) (ps : List (List ℕ)) → Free b (p ∷ ps) → parts b (joined_by b (p ∷ ps)) ≡ p ∷ ps
unfolding joined_by
parts-joined b p [] h = parts-alone b p h.0
parts-joined b p (q ∷ ps) h = parts_append b p (joined_by b (q ∷ ps)) ∙ rw (parts-alone b p h.0, parts-joined b q ps h.1)

-- From a place on: e is where the part that starts at `at` ends.
module _ (b : ℕ) (s : List ℕ) (at e : ℕ) (ends : e ≡ at + length (before b (drop at s))) where
  pub parts_onward : e < length s → parts b (drop at s) ≡ before b (drop at s) ∷ parts b (drop (e + 1) s)
  parts_onward h =
      let l : length (before b (drop at s)) < length (drop at s) = rw length-drop (omega arith) in
      let n : at + suc (length (before b (drop at s))) ≡ e + 1 = omega arith in
      parts_more b (drop at s) l ∙ rw (drop-drop, n)

  pub parts-ended : length s ≤ e → parts b (drop at s) ≡ before b (drop at s) ∷ []
  parts-ended h = parts_last b (drop at s) (rw length-drop (omega arith))

-- a line feed behind a line ends it
ended : (p : List ℕ) (b : ℕ) (s : List ℕ) → lines_of (p ∷ parts b s) ≡ record { content = p; ended = true } ∷ lines_of (parts b s)
unfolding lines_of
ended p b s = rw (parts_front b s)

unended : (p : List ℕ) → 0 < length p → lines_of (p ∷ []) ≡ record { content = p; ended = false } ∷ []
unfolding lines_of
unended [] h = absurd (omega arith)
unended (c ∷ cs) h = refl

module _ (s : List ℕ) (at e : ℕ) (ends : e ≡ at + length (before line_feed (drop at s))) where
  pub line-ended : e < length s → lines (drop at s) ≡ record { content = before line_feed (drop at s); ended = true } ∷ lines (drop (e + 1) s)
  line-ended h = ap lines_of (parts_onward line_feed s at e ends h) ∙ ended (before line_feed (drop at s)) line_feed (drop (e + 1) s)

  pub line_unended : at < length s → length s ≤ e → lines (drop at s) ≡ record { content = before line_feed (drop at s); ended = false } ∷ []
  line_unended l h = ap lines_of (parts-ended line_feed s at e ends h) ∙ unended (before line_feed (drop at s)) (omega arith)

pub no_line : (s : List ℕ) (at : ℕ) → length s ≤ at → lines (drop at s) ≡ []
unfolding lines_of parts
no_line s at h = rw (drop_of_length-le s h)
