-- The four grounds: a refusal is given exactly when its ground is the first that holds; and the first 65,536 bytes, with the number of all,
-- decide which.
use Rattle.std.specs.Prelude.{Option, None, Some}
use Prim.Native.Nat.{ℕ, ◌+◌, ◌≤◌, ◌<◌}
use native.Mathlib.Omega.{arith}
use mathlib.Core.Logic.{◌↔◌}
use mathlib.Core.Path.{◌≡◌, refl, sym, ap, ◌∙◌}
use mathlib.Core.Bool.{Bool, true, false, cond, ◌&&◌}
use mathlib.Core.List.{List, ◌++◌}
use borrow.Author.Tests.{ltb-false, leb-true, le-ltb, le-leb, not-false}
use lib.Dec.{leb}
use lib.ListN.{length, drop, length-append, length-drop}
use lib.Seq.{take-append-le, drop-append-le}
use Rattle.rules.proofs.Bools.{by_test, both}
use Rattle.bundle_rules.specs.declared.Refusal.{Refusal}
use Rattle.bundle_rules.specs.declared.Refusal.TheVariants.{CutShort, TooMany, BadName, BadBodies}
use Rattle.bundle_rules.specs.Numbers.{number_length, value_of}
use Rattle.bundle_rules.specs.Bundled.{most_scripts, longest, contents_length, Entry, well_named}
use Rattle.bundle_rules.specs.Reading.{number_of, count_of, contents, names_of, in_order, cut_short, too_many, bad_name, bad_bodies, ground, ground_of, FirstGround, refused, or_refused, entries_in, read_as}
use Rattle.bundle_rules.proofs.Rows.{rows-first}

-- Four tests in order.

abbrev chosen : Bool → Bool → Bool → Bool → Option Refusal
chosen a b c d = cond a (Some CutShort) (cond b (Some TooMany) (cond c (Some BadName) (cond d (Some BadBodies) None)))

abbrev test : Bool → Bool → Bool → Bool → Refusal → Bool
test a b c d CutShort = a
test a b c d TooMany = b
test a b c d BadName = c
test a b c d BadBodies = d

-- the tests before the one that is met fail
before_cut : (b c d : Bool) (h : Refusal) → number_of h < 20 → test true b c d h ≡ false
before_cut b c d CutShort l = absurd (omega arith)
before_cut b c d TooMany l = absurd (omega arith)
before_cut b c d BadName l = absurd (omega arith)
before_cut b c d BadBodies l = absurd (omega arith)

before_many : (c d : Bool) (h : Refusal) → number_of h < 21 → test false true c d h ≡ false
before_many c d CutShort l = refl
before_many c d TooMany l = absurd (omega arith)
before_many c d BadName l = absurd (omega arith)
before_many c d BadBodies l = absurd (omega arith)

before-name : (d : Bool) (h : Refusal) → number_of h < 22 → test false false true d h ≡ false
before-name d CutShort l = refl
before-name d TooMany l = refl
before-name d BadName l = absurd (omega arith)
before-name d BadBodies l = absurd (omega arith)

before-bodies : (h : Refusal) → number_of h < 23 → test false false false true h ≡ false
before-bodies CutShort l = refl
before-bodies TooMany l = refl
before-bodies BadName l = refl
before-bodies BadBodies l = absurd (omega arith)

record First (a b c d : Bool) (g : Refusal) : Type 0 where
  given : test a b c d g ≡ true
  first : (h : Refusal) → number_of h < number_of g → test a b c d h ≡ false

record NoneHolds (a b c d : Bool) : Type 0 where
  cut : a ≡ false
  many : b ≡ false
  name : c ≡ false
  bodies : d ≡ false

abbrev Judged : Bool → Bool → Bool → Bool → Option Refusal → Type 0
Judged a b c d None = NoneHolds a b c d
Judged a b c d (Some g) = First a b c d g

judged : (a b c d : Bool) → Judged a b c d (chosen a b c d)
judged true b c d = record { given = refl; first = before_cut b c d }
judged false true c d = record { given = refl; first = before_many c d }
judged false false true d = record { given = refl; first = before-name d }
judged false false false true = record { given = refl; first = before-bodies }
judged false false false false = record { cut = refl; many = refl; name = refl; bodies = refl }

tests-first : (a b c d : Bool) (g : Refusal) → chosen a b c d ≡ Some g → First a b c d g
tests-first a b c d g e = rw e at (judged a b c d)

tests_none : (a b c d : Bool) → chosen a b c d ≡ None → NoneHolds a b c d
tests_none a b c d e = rw e at (judged a b c d)

module _ (s : List ℕ) (n : ℕ) where
  same_test : (g : Refusal) → test (cut_short s n) (too_many s) (bad_name s) (bad_bodies s n) g ≡ ground g s n
  same_test CutShort = refl
  same_test TooMany = refl
  same_test BadName = refl
  same_test BadBodies = refl

  pub ground-first : (g : Refusal) → ground_of s n ≡ Some g → FirstGround s n g
  unfolding ground_of
  ground-first g e =
      let f : First (cut_short s n) (too_many s) (bad_name s) (bad_bodies s n) g = tests-first (cut_short s n) (too_many s) (bad_name s) (bad_bodies s n) g e in
      record { given = sym (same_test g) ∙ f.given; first = λ h l. sym (same_test h) ∙ f.first h l }

  pub first-ground : (g : Refusal) → FirstGround s n g → ground_of s n ≡ Some g
  unfolding ground_of
  first-ground CutShort f = rw f.given
  first-ground TooMany f = rw (f.first CutShort (omega arith), f.given)
  first-ground BadName f = rw (f.first CutShort (omega arith), f.first TooMany (omega arith), f.given)
  first-ground BadBodies f = rw (f.first CutShort (omega arith), f.first TooMany (omega arith), f.first BadName (omega arith), f.given)

  -- the four do not coincide
  pub ground-once : (g h : Refusal) → FirstGround s n g → FirstGround s n h → g ≡ h
  ground-once g h p q =
      let a : ground_of s n ≡ Some g = first-ground g p in
      let b : ground_of s n ≡ Some h = first-ground h q in
      cc

-- EACH REFUSAL IS GIVEN EXACTLY WHEN ITS GROUND IS THE FIRST THAT HOLDS.

refusal-told : (o : Option Refusal) (es : List Entry) (g : Refusal) → or_refused o es ≡ refused g → o ≡ Some g
refusal-told None es g e = let z : ◌≡◌ {A = ℕ} 0 1 = cc in absurd (omega arith)
refusal-told (Some h) es g e = cc

pub refused_exactly : (s : List ℕ) (g : Refusal) → (read_as s ≡ refused g) ↔ FirstGround s (length s) g
unfolding read_as
refused_exactly s g = (
  (λ e. ground-first s (length s) g (refusal-told (ground_of s (length s)) (entries_in s) g e)),
  (λ f. rw (first-ground s (length s) g f)),
)

-- What holds where no ground does.
pub record Clear (s : List ℕ) (n : ℕ) : Type 0 where
  pub table : contents_length (count_of s) ≤ n
  pub few : count_of s ≤ most_scripts
  pub named : well_named (names_of (contents s)) ≡ true
  pub ordered : in_order (contents_length (count_of s)) (contents s) n ≡ true
  pub short : n ≤ longest

module _ (s : List ℕ) (n : ℕ) where
  pub none_clear : ground_of s n ≡ None → Clear s n
  unfolding ground_of
  none_clear e =
      let t : NoneHolds (cut_short s n) (too_many s) (bad_name s) (bad_bodies s n) = tests_none (cut_short s n) (too_many s) (bad_name s) (bad_bodies s n) e in
      let at : ℕ = contents_length (count_of s) in
      let b : (in_order at (contents s) n ≡ true) × (leb n longest ≡ true) =
      both (in_order at (contents s) n) (leb n longest) (not-false (in_order at (contents s) n && leb n longest) t.bodies) in
      record {
        table = ltb-false n (contents_length (count_of s)) t.cut;
        few = ltb-false most_scripts (count_of s) t.many;
        named = not-false (well_named (names_of (contents s))) t.name;
        ordered = b.0;
        short = leb-true n longest b.1;
      }

  pub clear_none : Clear s n → ground_of s n ≡ None
  unfolding ground_of
  clear_none c =
      rw (le-ltb n (contents_length (count_of s)) c.table, le-ltb most_scripts (count_of s) c.few, c.named, c.ordered, le-leb n longest c.short)

-- THE FIRST 65,536 BYTES AND THE NUMBER OF ALL DECIDE: where the count is at most 256 the whole table lies in them.
module _ (kept rest : List ℕ) (enough : longest ≤ length kept) where
  same_count : count_of (kept ++ rest) ≡ count_of kept
  same_count = ap value_of (take-append-le number_length kept rest (omega arith))

  same-contents : count_of kept ≤ most_scripts → contents (kept ++ rest) ≡ contents kept
  same-contents few =
      rw (same_count, drop-append-le number_length kept rest (omega arith))
      (rows-first (count_of kept) (drop number_length kept) rest (rw (length-drop number_length kept) (omega arith)))

  same-ground : (n : ℕ) → ground_of kept n ≡ ground_of (kept ++ rest) n
  unfolding ground_of
  same-ground n =
      by_test (too_many kept)
      (λ t. rw (same_count, t))
      (λ t. rw (same-contents (ltb-false most_scripts (count_of kept) t), same_count))

  pub first_decides : ground_of kept (length kept + length rest) ≡ ground_of (kept ++ rest) (length (kept ++ rest))
  first_decides = same-ground (length kept + length rest) ∙ ap (ground_of (kept ++ rest)) (sym (length-append kept rest))
