-- Reader and writer together, from their contracts alone.
use Rattle.std.specs.Prelude.{Result, Ok, Err}
use Prim.Native.Nat.{ℕ, ◌≤◌}
use native.Mathlib.Omega.{arith}
use mathlib.Core.Logic.{◌↔◌}
use mathlib.Core.Path.{◌≡◌, refl, sym, ap, subst, ◌∙◌}
use mathlib.Core.List.{List, ◌++◌}
use lib.ListN.{length, take, drop}
use lib.Seq.{take_at}
use Rattle.bundle_rules.specs.declared.Refusal.{Refusal}
use Rattle.bundle_rules.specs.Bundled.{contents_length, Entry, bundled, Fits}
use Rattle.bundle_rules.specs.Reading.{Answer, refused, holds, read_as}
use Rattle.bundle_rules.proofs.RoundTrip.{bundled-length, fits_read, read-bundled}
use Rattle.bundle.specs.declared.Contents.{Contents}
use Rattle.bundle.specs.Contents.{Holds}
use Rattle.bundle.specs.Reads.{Tells, Reads}
use Rattle.bundle.specs.Writes.{whole_length, FirstAgainst, write_as, Leaves, Arrays, Writes}
use Rattle.bundle.proofs.Entries.{sizes-sum}
use Rattle.bundle.proofs.Grounds.{Writable, writable_writes, writes_writable, write_refused_exactly}
use Rattle.bundle.proofs.Bundling.{scripts_of, holds-once, written_holds, written_full}

-- What can be written is what can be bundled, and has room.
module _ (c : Contents) (bs : List ℕ) (es : List Entry) (h : Holds c bs es) where
  whole_length_lem : Fits es → length (bundled es) ≡ whole_length c bs
  whole_length_lem f = bundled-length es f.full ∙ rw (h.count, h.whole)

  pub holds_written : (room : ℕ) → Fits es → length (bundled es) ≤ room → write_as c bs room ≡ holds es
  holds_written room f fit =
      let e : length (bundled es) ≡ whole_length c bs = whole_length_lem f in
      let w : Writable c bs room =
      record {
        few = rw h.count f.few;
        named = rw h.names f.named;
        added = rw (h.sizes, h.whole) (sizes-sum es);
        short = omega (arith, e, f.short);
        roomy = omega (arith, e, fit);
      } in
      writable_writes c bs room w ∙ ap holds (holds-once c bs es h)

pub record CanWrite (c : Contents) (bs : List ℕ) (room : ℕ) (es : List Entry) : Type 0 where
  pub scripts : Holds c bs es
  pub fits : Fits es
  pub roomy : length (bundled es) ≤ room

module _ (c : Contents) (bs : List ℕ) (room : ℕ) (a : Arrays c) (w : Writable c bs room) where
  fits_scripts : CanWrite c bs room (scripts_of c bs)
  fits_scripts =
      let h : Holds c bs (scripts_of c bs) = written_holds c bs room a w in
      let full : _ = written_full c bs room a w in
      let e : length (bundled (scripts_of c bs)) ≡ whole_length c bs = bundled-length (scripts_of c bs) full ∙ rw (← h.count, ← h.whole) in
      record {
        scripts = h;
        fits = record { few = omega (arith, h.count, w.few); full = full; named = rw (← h.names) w.named; short = omega (arith, e, w.short) };
        roomy = omega (arith, e, w.roomy);
      }

-- the writer writes some scripts exactly when it is lent them, they can be bundled, and the buffer is large enough
pub writes_exactly : (c : Contents) (bs : List ℕ) (room : ℕ) (es : List Entry) → Arrays c → (write_as c bs room ≡ holds es) ↔ CanWrite c bs room es
writes_exactly c bs room es a = (
  λ e. let p : Writable c bs room × (scripts_of c bs ≡ es) = writes_writable c bs room es e in
      subst (λ (fs : List Entry). CanWrite c bs room fs) p.1 (fits_scripts c bs room a p.0),
  λ k. holds_written c bs es k.scripts room k.fits k.roomy,
)

-- WHAT IS WRITTEN READS BACK EQUAL: the bytes written are read as the scripts that the writer was lent.
pub record ReadsBack (c : Contents) (bs written : List ℕ) (es : List Entry) : Type 0 where
  pub scripts : Holds c bs es
  pub bytes : written ≡ bundled es
  pub reads : read_as written ≡ holds es

module _ (c : Contents) (bs old new : List ℕ) (n : ℕ) (a : Arrays c) where
  back : (es : List Entry) → write_as c bs (length old) ≡ holds es → Leaves old new (Ok n) (holds es) → ReadsBack c bs (take n new) es
  back es e l =
      let p : CanWrite c bs (length old) es = (writes_exactly c bs (length old) es a).0 e in
      let k : length (bundled es) ≡ n = cc l.0 in
      let t : take n new ≡ bundled es = rw l.1 (take_at (bundled es) (drop (length (bundled es)) old) n k) in
      record { scripts = p.scripts; bytes = t; reads = rw t (read-bundled es p.fits) }

  by_answer : (o : Answer) → write_as c bs (length old) ≡ o → Leaves old new (Ok n) o → ReadsBack c bs (take n new) (scripts_of c bs)
  by_answer (refused g) e l = let z : ◌≡◌ {A = ℕ} 0 1 = cc l.0 in absurd (omega arith)
  by_answer (holds es) e l =
      subst (λ (fs : List Entry). ReadsBack c bs (take n new) fs) (sym (writes_writable c bs (length old) es e).1) (back es e l)

pub written_reads_back : (c : Contents) (bs old new : List ℕ) (n : ℕ) → Writes c bs old new (Ok n) → ReadsBack c bs (take n new) (scripts_of c bs)
written_reads_back c bs old new n w = by_answer c bs old new n w.arrays (write_as c bs (length old)) refl w.leaves

-- so does whatever meets the reader's contract
pub written_then_read : (c : Contents) (bs old new : List ℕ) (n : ℕ) (r : Result Contents Refusal) → Writes c bs old new (Ok n) → Reads (take n new) r → Tells r (take n new) (holds (scripts_of c bs))
written_then_read c bs old new n r w d =
    subst (λ (o : Answer). Tells r (take n new) o) (written_reads_back c bs old new n w).reads d.tells

-- READ, THEN WRITTEN AGAIN: the same bytes, into every buffer that is large enough, and behind them it is as it was.
pub read_written_again : (s : List ℕ) (c : Contents) (es : List Entry) (old new : List ℕ) (w : Result ℕ Refusal) → Reads s (Ok c) → read_as s ≡ holds es
    → Writes c (drop (contents_length (length es)) s) old new w → length s ≤ length old
    → (w ≡ Ok (length s)) × (new ≡ s ++ drop (length s) old)
read_written_again s c es old new w d e k fit =
    let t : Tells (Ok c) s (holds es) = subst (λ (o : Answer). Tells (Ok c) s o) e d.tells in
    let same : t.0 ≡ c = cc t.1 in
    let b : s ≡ bundled es = d.bundle es e in
    let room : length (bundled es) ≤ length old = rw (← b) fit in
    let h : write_as c (drop (contents_length (length es)) s) (length old) ≡ holds es =
    holds_written c (drop (contents_length (length es)) s) es (rw same at t.2) (length old) (fits_read s es e) room in
    let l : Leaves old new w (holds es) = subst (λ (o : Answer). Leaves old new w o) h k.leaves in
    subst (λ (x : List ℕ). (w ≡ Ok (length x)) × (new ≡ x ++ drop (length x) old)) (sym b) l

-- Two answers that meet the writer's contract are equal, and so is every byte of the buffer.
module _ (old new₁ new₂ : List ℕ) (r₁ r₂ : Result ℕ Refusal) where
  leaves-once : (o : Answer) → Leaves old new₁ r₁ o → Leaves old new₂ r₂ o → (r₁ ≡ r₂) × (new₁ ≡ new₂)
  leaves-once (refused g) a b = (a.0 ∙ sym b.0, a.1 ∙ sym b.1)
  leaves-once (holds es) a b = (a.0 ∙ sym b.0, a.1 ∙ sym b.1)

  pub written_once : (c : Contents) (bs : List ℕ) → Writes c bs old new₁ r₁ → Writes c bs old new₂ r₂ → (r₁ ≡ r₂) × (new₁ ≡ new₂)
  written_once c bs a b = leaves-once (write_as c bs (length old)) a.leaves b.leaves

-- Each refusal is answered exactly when its ground is the first that holds, in the order 21, 22, 23, 20; and then nothing is written.
module _ (c : Contents) (bs old new : List ℕ) (r : Result ℕ Refusal) (w : Writes c bs old new r) where
  not-refused : (o : Answer) (g : Refusal) → Leaves old new r o → r ≡ Err g → o ≡ refused g
  not-refused (refused h) g l e = cc l.0
  not-refused (holds es) g l e = let z : ◌≡◌ {A = ℕ} 0 1 = cc l.0 in absurd (omega arith)

  refused-leaves : (g : Refusal) → write_as c bs (length old) ≡ refused g → (r ≡ Err g) × (new ≡ old)
  refused-leaves g e = subst (λ (o : Answer). Leaves old new r o) e w.leaves

  pub refuses_exactly : (g : Refusal) → (r ≡ Err g) ↔ FirstAgainst c bs (length old) g
  refuses_exactly g = (
    λ e. (write_refused_exactly c bs (length old) g).0 (not-refused (write_as c bs (length old)) g w.leaves e),
    λ f. (refused-leaves g ((write_refused_exactly c bs (length old) g).1 f)).0,
  )

  pub refused_untouched : (g : Refusal) → r ≡ Err g → new ≡ old
  refused_untouched g e = (refused-leaves g (not-refused (write_as c bs (length old)) g w.leaves e)).1
