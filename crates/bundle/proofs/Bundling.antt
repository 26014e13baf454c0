-- What the writer leaves: the scripts that it was lent, bundled.
use Rattle.std.specs.Prelude.{None, Some, Ok, Err}
use Prim.Native.Nat.{ℕ}
use native.Mathlib.Omega.{arith}
use mathlib.Core.Path.{◌≡◌, refl, sym, ap, ◌∙◌}
use mathlib.Core.Bool.{true}
use mathlib.Core.List.{List, ◌++◌}
use lib.ListN.{length, drop}
use lib.Seq.{length-take-le}
use Rattle.text.specs.Writing.{Appended}
use Rattle.bundle_rules.specs.declared.Refusal.{Refusal}
use Rattle.bundle_rules.specs.Bundled.{name_length, Entry, bundled, entry_names, full_names}
use Rattle.bundle_rules.specs.Reading.{entries_of}
use Rattle.bundle_rules.proofs.Placing.{entries_of_lem}
use Rattle.bundle.specs.declared.Contents.{Contents}
use Rattle.bundle.specs.Contents.{names_in, sizes_in, Holds}
use Rattle.bundle.specs.Writing.{LentWhole, BundlePut}
use Rattle.bundle.specs.Writes.{ground_to_write, write_as, Arrays, Writes}
use Rattle.bundle.proofs.Entries.{entries-number, entries-names, entries-sizes, entries-bodies, stretches-number, stretches-full}
use Rattle.bundle.proofs.Said.{bytes-held}
use Rattle.bundle.proofs.Grounds.{Writable, none_writable, writable_writes, writable_lent}

-- the scripts that contents and bodies are cut into
abbrev pub scripts_of : Contents → List ℕ → List Entry
scripts_of c bs = entries_of (names_in c) (sizes_in c) bs

-- contents and bodies that stand for scripts are cut into these, and so stand for no others
pub holds-once : (c : Contents) (bs : List ℕ) (es : List Entry) → Holds c bs es → scripts_of c bs ≡ es
holds-once c bs es h = rw (h.names, h.sizes, h.whole) (entries_of_lem es)

-- Contents and bodies that can be written stand for them.
module _ (c : Contents) (bs : List ℕ) (room : ℕ) (a : Arrays c) (w : Writable c bs room) where
  names-count : length (names_in c) ≡ c.count
  names-count = stretches-number name_length c.count c.names

  alike : length (names_in c) ≡ length (sizes_in c)
  alike = names-count ∙ sym (length-take-le c.count c.lengths (omega (arith, a.lengths, w.few)))

  scripts_count : length (scripts_of c bs) ≡ c.count
  scripts_count = entries-number (names_in c) (sizes_in c) bs alike ∙ names-count

  scripts_names : entry_names (scripts_of c bs) ≡ names_in c
  scripts_names = entries-names (names_in c) (sizes_in c) bs alike

  pub written_holds : Holds c bs (scripts_of c bs)
  written_holds =
      record {
        count = sym scripts_count;
        names = sym scripts_names;
        sizes = sym (entries-sizes (names_in c) (sizes_in c) bs alike (omega (arith, w.added)));
        whole = sym (entries-bodies (names_in c) (sizes_in c) bs alike w.added);
      }

  pub written_full : full_names (entry_names (scripts_of c bs)) ≡ true
  written_full = rw scripts_names (stretches-full c.count c.names (omega (arith, a.names, w.few)))

-- The answers of the writer.
module _ (c : Contents) (bs old : List ℕ) (a : Arrays c) where
  pub writes_not : (g : Refusal) → Some g ≡ ground_to_write c bs (length old) → Writes c bs old old (Err g)
  unfolding write_as
  writes_not g told = record { leaves = rw (← told) (refl, refl); arrays = a }

  module _ (told : None ≡ ground_to_write c bs (length old)) where
    good_writable : Writable c bs (length old)
    good_writable = none_writable c bs (length old) (sym told)

    pub good_lent : LentWhole c.names c.lengths c.count bs (length old)
    good_lent = record { rows = writable_lent c bs (length old) a good_writable; whole = good_writable.roomy }

    pub writes_bytes : (new : List ℕ) (r : ℕ) → BundlePut old c.names c.lengths c.count bs new r → Writes c bs old new (Ok r)
    writes_bytes new r p =
        let w : Writable c bs (length old) = good_writable in
        let q : Appended old 0 (bundled (scripts_of c bs)) new r = rw (bytes-held (written_holds c bs (length old) a w)) at p in
        let n : r ≡ length (bundled (scripts_of c bs)) = omega (arith, q.end) in
        record {
          leaves =
              rw (writable_writes c bs (length old) w)
              (ap Ok n, q.whole ∙ ap (λ (k : ℕ). bundled (scripts_of c bs) ++ drop k old) n);
          arrays = a;
        }
