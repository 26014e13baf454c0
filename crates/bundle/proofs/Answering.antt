-- What the first ground tells of some bytes is what the reader answers for the bundle.
use Rattle.std.specs.Prelude.{Option, None, Some, Result, Err}
use Prim.Native.Nat.{ℕ, ◌+◌, ◌≤◌, ◌<◌}
use native.Mathlib.Nat.{add-zero}
use native.Mathlib.Omega.{arith}
use mathlib.Core.Path.{◌≡◌, refl, sym, ◌∙◌}
use mathlib.Core.List.{List, ◌++◌}
use lib.ListN.{length}
use Rattle.bundle_rules.specs.declared.Refusal.{Refusal}
use Rattle.bundle_rules.specs.declared.Refusal.TheVariants.{CutShort}
use Rattle.bundle_rules.specs.Numbers.{Bytes}
use Rattle.bundle_rules.specs.Bundled.{longest}
use Rattle.bundle_rules.specs.Reading.{entries_in, ground_of, or_refused, read_as}
use Rattle.bundle_rules.proofs.Grounds.{none_clear, first_decides}
use Rattle.bundle_rules.proofs.RoundTrip.{Accepted, accepted, bundled-read}
use Rattle.bundle.specs.declared.Contents.{Contents}
use Rattle.bundle.specs.Reads.{Tells, Reads, ReadsCounted, Judged, Judges}

-- All bytes are there.

tells : (s : List ℕ) (r : Result Contents Refusal) (g : Option Refusal) → ground_of s (length s) ≡ g → Judged r s g → Tells r s (or_refused g (entries_in s))
unfolding read_as
tells s r (Some g) e j = j
tells s r None e j =
    let a : Accepted s (entries_in s) = accepted s (entries_in s) (rw e) in (
      j.0,
      j.1,
      record {
        count = j.2.count ∙ a.count;
        names = j.2.names ∙ a.names;
        sizes = j.2.sizes ∙ a.sizes;
        whole = a.rest;
      },
    )

pub reads_all : (s : List ℕ) (r : Result Contents Refusal) → Bytes s → Judges s 0 r → Reads s r
unfolding read_as
reads_all s r b j =
    record {
      tells = tells s r (ground_of s (length s)) refl (rw add-zero at j.says);
      bundle = λ es e. bundled-read s es e b;
    }

-- Some are only counted: the whole is too long, so that a ground holds.

refused_all : (s t : List ℕ) (r : Result Contents Refusal) (g : Option Refusal) → ground_of t (length t) ≡ g → (g ≡ None → ⊥) → Judged r s g → Reads t r
unfolding read_as
refused_all s t r None e f j = absurd (f refl)
refused_all s t r (Some g) e f j =
    record {
      tells = rw e j;
      bundle = λ es h. let z : ◌≡◌ {A = ℕ} 0 1 = cc (rw e at h) in absurd (omega arith);
    }

module _ (kept : List ℕ) (more : ℕ) (r : Result Contents Refusal) where
  pub counted_none : more ≡ 0 → Reads kept r → ReadsCounted kept more r
  counted_none z p =
      record {
        whole = λ e. p;
        first = λ h l rest e. absurd (omega arith);
        few = λ h l. absurd (omega arith);
      }

  pub counted-few : (more ≡ 0 → ⊥) → length kept < longest → r ≡ Err CutShort → ReadsCounted kept more r
  counted-few z k v =
      record {
        whole = λ e. absurd (z e);
        first = λ h l rest e. absurd (omega arith);
        few = λ h l. v;
      }

  pub counted_all : (more ≡ 0 → ⊥) → longest ≤ length kept → Judges kept more r → ReadsCounted kept more r
  counted_all z k j =
      record {
        whole = λ e. absurd (z e);
        first =
            λ h l rest e.
            let g : ground_of (kept ++ rest) (length (kept ++ rest)) ≡ ground_of kept (length kept + more) =
            sym (first_decides kept rest k) ∙ rw e in
            refused_all kept (kept ++ rest) r (ground_of kept (length kept + more)) g
            (λ n. omega (arith, (none_clear kept (length kept + more) n).short))
            j.says;
        few = λ h l. absurd (omega arith);
      }
