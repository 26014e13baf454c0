-- NO SECOND ANSWER of the reader: the same refusal or, of good bundles, contents that hold the same scripts.
use Rattle.std.specs.Prelude.{Result, Ok, Err}
use Prim.Native.Nat.{ℕ}
use native.Mathlib.Decide.{dec_le, dec_lt}
use native.Mathlib.Omega.{arith}
use mathlib.Core.Path.{◌≡◌, refl, sym, ◌∙◌}
use mathlib.Core.List.{List, ◌++◌}
use lib.ListN.{length, replicate, length-replicate}
use Rattle.bundle_rules.specs.declared.Refusal.{Refusal}
use Rattle.bundle_rules.specs.declared.Refusal.TheVariants.{CutShort}
use Rattle.bundle_rules.specs.Bundled.{longest}
use Rattle.bundle_rules.specs.Reading.{Answer, refused, holds, read_as}
use Rattle.bundle.specs.declared.Contents.{Contents}
use Rattle.bundle.specs.Contents.{names_in, sizes_in}
use Rattle.bundle.specs.Reads.{Tells, Reads, ReadsCounted}

pub record Alike (c d : Contents) : Type 0 where
  pub count : c.count ≡ d.count
  pub names : names_in c ≡ names_in d
  pub sizes : sizes_in c ≡ sizes_in d

abbrev pub Same : Result Contents Refusal → Result Contents Refusal → Type 0
Same (Ok c) (Ok d) = Alike c d
Same (Ok c) (Err h) = ⊥
Same (Err g) (Ok d) = ⊥
Same (Err g) (Err h) = g ≡ h

both_refused : (r t : Result Contents Refusal) (g : Refusal) → r ≡ Err g → t ≡ Err g → Same r t
both_refused r t g p q = rw (p, q) refl

alike : (s : List ℕ) (r t : Result Contents Refusal) (a : Answer) → Tells r s a → Tells t s a → Same r t
alike s r t (refused g) p q = both_refused r t g p q
alike s r t (holds es) p q =
    let c : Alike p.0 q.0 = record {
      count = p.2.count ∙ sym q.2.count;
      names = p.2.names ∙ sym q.2.names;
      sizes = p.2.sizes ∙ sym q.2.sizes;
    } in
    rw (p.1, q.1) c

pub read-once : (s : List ℕ) (r t : Result Contents Refusal) → Reads s r → Reads s t → Same r t
read-once s r t p q = alike s r t (read_as s) p.tells q.tells

-- nor where some bytes are only counted
pub counted-once : (kept : List ℕ) (more : ℕ) (r t : Result Contents Refusal) → ReadsCounted kept more r → ReadsCounted kept more t → Same r t
counted-once kept more r t p q =
    elim (dec_lt 0 more) [
      | no m ↦ read-once kept r t (p.whole (omega arith)) (q.whole (omega arith))
      | yes m ↦
          elim (dec_le longest (length kept)) [
            | no l ↦ both_refused r t CutShort (p.few m (omega arith)) (q.few m (omega arith))
            | yes l ↦
                let others : List ℕ = replicate more 0 in
                let n : length others ≡ more = length-replicate {A = ℕ} more 0 in
                read-once (kept ++ others) r t (p.first m l others n) (q.first m l others n)
          ]
    ]
