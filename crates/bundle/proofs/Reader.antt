-- What any reader that meets the contract answers, from the contract alone.
use Rattle.std.specs.Prelude.{Result, Ok, Err}
use Prim.Native.Nat.{ℕ, ◌<◌}
use native.Mathlib.Omega.{arith}
use mathlib.Core.Logic.{◌↔◌}
use mathlib.Core.Path.{◌≡◌, sym, ap, subst, ◌∙◌}
use mathlib.Core.List.{List}
use lib.ListN.{length, get_or, drop}
use Rattle.bundle_rules.specs.declared.Refusal.{Refusal}
use Rattle.bundle_rules.specs.Bundled.{contents_length, Entry, bundled, Fits}
use Rattle.bundle_rules.specs.Reading.{FirstGround, Answer, refused, holds, read_as}
use Rattle.bundle_rules.proofs.Grounds.{refused_exactly}
use Rattle.bundle_rules.proofs.RoundTrip.{fits_read, read-bundled}
use Rattle.bundle.specs.declared.Contents.{Contents}
use Rattle.bundle.specs.Contents.{Holds, body_at}
use Rattle.bundle.specs.Reads.{Tells, Reads}
use Rattle.bundle.proofs.Bodies.{body_of}
use Rattle.bundle.proofs.Bundling.{scripts_of, holds-once}

module _ (s : List ℕ) where
  abbrev HoldsBehind : Contents → List Entry → Type 0
  HoldsBehind c es = Holds c (drop (contents_length (length es)) s) es

  same_scripts : (c : Contents) (es fs : List Entry) → HoldsBehind c es → HoldsBehind c fs → es ≡ fs
  same_scripts c es fs h k =
      let n : length es ≡ length fs = sym h.count ∙ k.count in
      let b : drop (contents_length (length es)) s ≡ drop (contents_length (length fs)) s = ap (λ (m : ℕ). drop (contents_length m) s) n in
      sym (holds-once c (drop (contents_length (length es)) s) es h)
      ∙ ap (scripts_of c) b
      ∙ holds-once c (drop (contents_length (length fs)) s) fs k

module _ (s : List ℕ) (r : Result Contents Refusal) where
  told-refused : (a : Answer) (g : Refusal) → Tells r s a → r ≡ Err g → a ≡ refused g
  told-refused (refused h) g t e = cc
  told-refused (holds es) g t e = let z : ◌≡◌ {A = ℕ} 0 1 = cc t.1 in absurd (omega arith)

  told-holds : (a : Answer) (c : Contents) (es : List Entry) → Tells r s a → r ≡ Ok c → HoldsBehind s c es → a ≡ holds es
  told-holds (refused g) c es t e h = let z : ◌≡◌ {A = ℕ} 0 1 = cc in absurd (omega arith)
  told-holds (holds fs) c es t e h =
      let same : t.0 ≡ c = cc t.1 in
      ap holds (same_scripts s c fs es (rw same at t.2) h)

module _ (s : List ℕ) (r : Result Contents Refusal) (d : Reads s r) where
  tells_it : (a : Answer) → read_as s ≡ a → Tells r s a
  tells_it a e = subst (λ (o : Answer). Tells r s o) e d.tells

  -- EACH REFUSAL is answered exactly when its ground is the first that holds.
  pub reader_refuses_exactly : (g : Refusal) → (r ≡ Err g) ↔ FirstGround s (length s) g
  reader_refuses_exactly g = (
    λ e. (refused_exactly s g).0 (told-refused s r (read_as s) g d.tells e),
    λ f. tells_it (refused g) ((refused_exactly s g).1 f),
  )

  -- SCRIPTS are answered exactly when the bytes are those scripts bundled, and they fit.
  pub reader_answers_exactly : (es : List Entry) → ((c : Contents) × (r ≡ Ok c) × Holds c (drop (contents_length (length es)) s) es) ↔ ((s ≡ bundled es) × Fits es)
  reader_answers_exactly es = (
    λ p. let e : read_as s ≡ holds es = told-holds s r (read_as s) p.0 es d.tells p.1 p.2 in
        (d.bundle es e, fits_read s es e),
    λ p. tells_it (holds es) (ap read_as p.0 ∙ read-bundled es p.1),
  )

  -- THE BODY OF EACH SCRIPT stands where the contents read say.
  pub read-body : (c : Contents) (es : List Entry) (i : ℕ) (x : Entry) → r ≡ Ok c → read_as s ≡ holds es → i < length es → body_at c s i ≡ (get_or es i x).body
  read-body c es i x o e l =
      let t : Tells r s (holds es) = tells_it (holds es) e in
      let same : t.0 ≡ c = cc t.1 in
      let h : HoldsBehind s c es = rw same at t.2 in
      let k : Holds c (drop (contents_length c.count) s) es = subst (λ (n : ℕ). Holds c (drop (contents_length n) s) es) (sym h.count) h in
      body_of c s es k (fits_read s es e).few i x l
