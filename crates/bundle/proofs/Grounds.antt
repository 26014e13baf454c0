-- The writer's grounds, and what is known where none holds.
use Rattle.std.specs.Prelude.{Option, None, Some}
use Prim.Native.Nat.{ℕ, ◌+◌, ◌-◌, ◌≤◌, ◌<◌}
use native.Mathlib.Omega.{arith}
use mathlib.Core.Path.{◌≡◌, refl, sym, ◌∙◌}
use mathlib.Core.Bool.{Bool, true, false, cond, not}
use mathlib.Core.List.{List}
use mathlib.Core.Logic.{◌⊎◌, inl, inr, ⊎_elim, ◌↔◌}
use borrow.Author.Tests.{ltb-false, leb-true, eqb-true, not-true, not-false, lt-ltb, le-ltb, le-leb, lt-leb, eq-eqb, ne_eqb}
use lib.Dec.{eqb, leb}
use lib.ListN.{length}
use Rattle.rules.proofs.Bools.{both}
use Rattle.bundle_rules.specs.declared.Refusal.{Refusal}
use Rattle.bundle_rules.specs.declared.Refusal.TheVariants.{CutShort, TooMany, BadName, BadBodies}
use Rattle.bundle_rules.specs.Bundled.{most_scripts, longest, contents_length, Entry, well_named}
use Rattle.bundle_rules.specs.Reading.{refused, holds, or_refused, entries_of}
use Rattle.bundle.specs.declared.Contents.{Contents}
use Rattle.bundle.specs.Contents.{names_in, sizes_in, sum_of, Lent}
use Rattle.bundle.specs.Writes.{whole_length, ground_against, ground_to_write, turn_of, FirstAgainst, write_as, Arrays}

-- No ground holds.
pub record Writable (c : Contents) (bs : List ℕ) (room : ℕ) : Type 0 where
  pub few : c.count ≤ most_scripts
  pub named : well_named (names_in c) ≡ true
  pub added : sum_of (sizes_in c) ≡ length bs
  pub short : whole_length c bs ≤ longest
  pub roomy : whole_length c bs ≤ room

cond_none : (b : Bool) (g : Refusal) (o : Option Refusal) → cond b (Some g) o ≡ None → (b ≡ false) × (o ≡ None)
cond_none true g o e = let z : ◌≡◌ {A = ℕ} 0 1 = cc in absurd (omega arith)
cond_none false g o e = (refl, e)

cond_some : (b : Bool) (g h : Refusal) (o : Option Refusal) → cond b (Some g) o ≡ Some h → ((b ≡ true) × (g ≡ h)) ⊎ ((b ≡ false) × (o ≡ Some h))
cond_some true g h o e = inl (refl, cc)
cond_some false g h o e = inr (refl, e)

refused-ground : (o : Option Refusal) (es : List Entry) (g : Refusal) → or_refused o es ≡ refused g → o ≡ Some g
refused-ground None es g e = let z : ◌≡◌ {A = ℕ} 0 1 = cc in absurd (omega arith)
refused-ground (Some h) es g e = cc

held-ground : (o : Option Refusal) (es fs : List Entry) → or_refused o es ≡ holds fs → (o ≡ None) × (es ≡ fs)
held-ground None es fs e = (refl, cc)
held-ground (Some h) es fs e = let z : ◌≡◌ {A = ℕ} 0 1 = cc in absurd (omega arith)

module _ (c : Contents) (bs : List ℕ) (room : ℕ) where
  abbrev least : Option Refusal
  least = cond (ground_against CutShort c bs room) (Some CutShort) None

  abbrev later : Option Refusal
  later = cond (ground_against BadBodies c bs room) (Some BadBodies) least

  abbrev late : Option Refusal
  late = cond (ground_against BadName c bs room) (Some BadName) later

  pub none_writable : ground_to_write c bs room ≡ None → Writable c bs room
  unfolding ground_to_write
  none_writable e =
      let p : (ground_against TooMany c bs room ≡ false) × (late ≡ None) = cond_none (ground_against TooMany c bs room) TooMany late e in
      let q : (ground_against BadName c bs room ≡ false) × (later ≡ None) = cond_none (ground_against BadName c bs room) BadName later p.1 in
      let r : (ground_against BadBodies c bs room ≡ false) × (least ≡ None) = cond_none (ground_against BadBodies c bs room) BadBodies least q.1 in
      let s : (ground_against CutShort c bs room ≡ false) × (◌≡◌ {A = Option Refusal} None None) = cond_none (ground_against CutShort c bs room) CutShort None r.1 in
      let t : (eqb (sum_of (sizes_in c)) (length bs) ≡ true) × (leb (whole_length c bs) longest ≡ true) = both _ _ (not-false _ r.0) in
      record {
        few = ltb-false most_scripts c.count p.0;
        named = not-false _ q.0;
        added = eqb-true (sum_of (sizes_in c)) (length bs) t.0;
        short = leb-true (whole_length c bs) longest t.1;
        roomy = ltb-false room (whole_length c bs) s.0;
      }

  pub writable_none : Writable c bs room → ground_to_write c bs room ≡ None
  unfolding ground_to_write
  writable_none w =
      rw (
        le-ltb most_scripts c.count w.few,
        w.named,
        eq-eqb (sum_of (sizes_in c)) (length bs) w.added,
        le-leb (whole_length c bs) longest w.short,
        le-ltb room (whole_length c bs) w.roomy,
      )

  -- Each refusal is given exactly when its ground is the first that holds.
  is_first_lem : (x g : Refusal) → x ≡ g → FirstAgainst c bs room x → FirstAgainst c bs room g
  is_first_lem x g e f = rw e at f

  before_many : (h : Refusal) → turn_of h < turn_of TooMany → ground_against h c bs room ≡ false
  before_many TooMany l = absurd (omega arith)
  before_many BadName l = absurd (omega arith)
  before_many BadBodies l = absurd (omega arith)
  before_many CutShort l = absurd (omega arith)

  before-name : ground_against TooMany c bs room ≡ false → (h : Refusal) → turn_of h < turn_of BadName → ground_against h c bs room ≡ false
  before-name p TooMany l = p
  before-name p BadName l = absurd (omega arith)
  before-name p BadBodies l = absurd (omega arith)
  before-name p CutShort l = absurd (omega arith)

  before-bodies : ground_against TooMany c bs room ≡ false → ground_against BadName c bs room ≡ false → (h : Refusal) → turn_of h < turn_of BadBodies → ground_against h c bs room ≡ false
  before-bodies p q TooMany l = p
  before-bodies p q BadName l = q
  before-bodies p q BadBodies l = absurd (omega arith)
  before-bodies p q CutShort l = absurd (omega arith)

  before-room : ground_against TooMany c bs room ≡ false → ground_against BadName c bs room ≡ false → ground_against BadBodies c bs room ≡ false → (h : Refusal) → turn_of h < turn_of CutShort → ground_against h c bs room ≡ false
  before-room p q r TooMany l = p
  before-room p q r BadName l = q
  before-room p q r BadBodies l = r
  before-room p q r CutShort l = absurd (omega arith)

  ground-first : (g : Refusal) → ground_to_write c bs room ≡ Some g → FirstAgainst c bs room g
  unfolding ground_to_write
  ground-first g e =
      ⊎_elim (λ p. is_first_lem TooMany g p.1 (record { given = p.0; first = before_many }))
      (λ p. ⊎_elim (λ q. is_first_lem BadName g q.1 (record { given = q.0; first = before-name p.0 }))
      (λ q. ⊎_elim (λ r. is_first_lem BadBodies g r.1 (record { given = r.0; first = before-bodies p.0 q.0 }))
      (λ r. ⊎_elim (λ t. is_first_lem CutShort g t.1 (record { given = t.0; first = before-room p.0 q.0 r.0 }))
      (λ t. let z : ◌≡◌ {A = ℕ} 0 1 = cc t.1 in absurd (omega arith))
      (cond_some (ground_against CutShort c bs room) CutShort g None r.1))
      (cond_some (ground_against BadBodies c bs room) BadBodies g least q.1))
      (cond_some (ground_against BadName c bs room) BadName g later p.1))
      (cond_some (ground_against TooMany c bs room) TooMany g late e)

  first-ground : (g : Refusal) → FirstAgainst c bs room g → ground_to_write c bs room ≡ Some g
  unfolding ground_to_write
  first-ground TooMany f = rw f.given
  first-ground BadName f = rw (f.first TooMany (omega arith), f.given)
  first-ground BadBodies f = rw (f.first TooMany (omega arith), f.first BadName (omega arith), f.given)
  first-ground CutShort f =
      rw (f.first TooMany (omega arith), f.first BadName (omega arith), f.first BadBodies (omega arith), f.given)

  pub write_refused_exactly : (g : Refusal) → (write_as c bs room ≡ refused g) ↔ FirstAgainst c bs room g
  unfolding write_as
  write_refused_exactly g =
      (λ e. ground-first g (refused-ground (ground_to_write c bs room) (entries_of (names_in c) (sizes_in c) bs) g e), λ f. rw (first-ground g f))

  -- What is written, where no ground holds.
  pub writable_writes : Writable c bs room → write_as c bs room ≡ holds (entries_of (names_in c) (sizes_in c) bs)
  unfolding write_as
  writable_writes w = rw (writable_none w)

  pub writes_writable : (es : List Entry) → write_as c bs room ≡ holds es → Writable c bs room × (entries_of (names_in c) (sizes_in c) bs ≡ es)
  unfolding write_as
  writes_writable es e =
      let p : (ground_to_write c bs room ≡ None) × (entries_of (names_in c) (sizes_in c) bs ≡ es) = held-ground (ground_to_write c bs room) (entries_of (names_in c) (sizes_in c) bs) es e in
      (none_writable p.0, p.1)

  pub writable_lent : Arrays c → Writable c bs room → Lent c.names c.lengths c.count longest
  writable_lent a w =
      record {
        few = w.few;
        named = omega (arith, a.names, w.few);
        sized = omega (arith, a.lengths, w.few);
        ends = omega (arith, w.added, w.short);
      }

-- The tests as the writer makes them, on what it is lent: r says whether the names are good, and k is the sum of the lengths.
module _ (c : Contents) (bs : List ℕ) (room : ℕ) where
  pub told_many : most_scripts < c.count → Some TooMany ≡ ground_to_write c bs room
  unfolding ground_to_write
  told_many h = rw (lt-ltb most_scripts c.count h)

  module _ (r : Bool) (few : c.count ≤ most_scripts) (e : r ≡ well_named (names_in c)) where
    pub told-name : not r ≡ true → Some BadName ≡ ground_to_write c bs room
    unfolding ground_to_write
    told-name h = rw (le-ltb most_scripts c.count few, ← e, not-true r h)

    module _ (k : ℕ) (named : not r ≡ false) (d : k ≡ sum_of (sizes_in c)) where
      good : well_named (names_in c) ≡ true
      good = sym e ∙ not-false r named

      pub told-sum : (k ≡ length bs → ⊥) → Some BadBodies ≡ ground_to_write c bs room
      unfolding ground_to_write
      told-sum h = rw (le-ltb most_scripts c.count few, good, ← d, ne_eqb k (length bs) h)

      module _ (added : k ≡ length bs) where
        pub told-long : longest - contents_length c.count < length bs → Some BadBodies ≡ ground_to_write c bs room
        unfolding ground_to_write
        told-long h =
            rw (le-ltb most_scripts c.count few, good, ← d, eq-eqb k (length bs) added, lt-leb (contents_length c.count + length bs) longest (omega arith))

        module _ (short : length bs ≤ longest - contents_length c.count) where
          pub told-room : room < contents_length c.count + length bs → Some CutShort ≡ ground_to_write c bs room
          unfolding ground_to_write
          told-room h =
              rw (
                le-ltb most_scripts c.count few,
                good,
                ← d,
                eq-eqb k (length bs) added,
                le-leb (contents_length c.count + length bs) longest (omega arith),
                lt-ltb room (contents_length c.count + length bs) h,
              )

          pub told_none : contents_length c.count + length bs ≤ room → None ≡ ground_to_write c bs room
          told_none h =
              sym (writable_none c bs room (record { few = few; named = good; added = sym d ∙ added; short = omega arith; roomy = h }))
