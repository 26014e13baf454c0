-- What the reader answers, and so what is printed for a bundle of which some bytes are kept and the others counted.
use Rattle.std.specs.Prelude.{Result, Ok, Err}
use Prim.Native.Nat.{ℕ, suc, ◌+◌, ◌*◌, ◌/◌, ◌≤◌, ◌<◌}
use native.Mathlib.Nat.{div-add-mod'}
use native.Mathlib.Decide.{dec_le, dec_lt}
use native.Mathlib.Omega.{arith}
use mathlib.Core.Path.{◌≡◌, refl, ap, sym, ◌∙◌}
use mathlib.Core.List.{List, [], ◌∷◌, ◌++◌, append-nil}
use lib.ListN.{length, drop, replicate, length-append, length-replicate}
use lib.Seq.{length-take-le}
use Rattle.rules.specs.Text.{digits, last_digits}
use Rattle.text.specs.Writing.{Appended}
use Rattle.rules.specs.Script.{byte_room}
use Rattle.bundle_rules.specs.declared.Refusal.{Refusal}
use Rattle.bundle_rules.specs.declared.Refusal.TheVariants.{CutShort, TooMany, BadName, BadBodies}
use Rattle.bundle_rules.specs.Bundled.{name_length, most_scripts, longest, contents_length, Entry}
use Rattle.bundle_rules.specs.Reading.{Answer, refused, holds, read_as}
use Rattle.bundle_rules.proofs.RoundTrip.{accepted, fits_read}
use Rattle.bundle.specs.declared.Contents.{Contents}
use Rattle.bundle.specs.Contents.{Holds, end_of, Lent}
use Rattle.bundle.specs.Reads.{Tells, Reads, ReadsCounted}
use Rattle.bundle.proofs.Said.{rows-held, end-held}
use Rattle.bundle_jobs.specs.Printed.{refusal_text, scripts_text, rows_text, run_text, list_text, text_for, room_for, Behind, PrintsFor}
use Rattle.bundle_jobs.specs.Placing.{rows_in, EndsBy, scripts_at}
use Rattle.bundle_jobs.specs.declared.Job.{Job}
use Rattle.bundle_jobs.specs.declared.Job.TheVariants.{Run, List as Listed}
use Rattle.bundle_jobs.proofs.Standing.{scripts_placed}

-- The room, by a quotient.
pub room-short : (m n : ℕ) → m / byte_room ≤ n → m < byte_room * suc n
room-short m n h = omega (arith, div-add-mod' m byte_room)

pub room-there : (m n : ℕ) → n < m / byte_room → byte_room * suc n ≤ m
room-there m n h = omega (arith, div-add-mod' m byte_room)

refusal-short : (g : Refusal) → length (refusal_text g) ≡ 4
unfolding digits last_digits
refusal-short CutShort = refl
refusal-short TooMany = refl
refusal-short BadName = refl
refusal-short BadBodies = refl

pub refusal-room : (g : Refusal) (kept : List ℕ) (m : ℕ) → length kept < m / byte_room → length (refusal_text g) ≤ m
refusal-room g kept m h = omega (arith, refusal-short g, room-there m (length kept) h)

-- the arrays of contents are there
pub lent_by : {c : Contents} {end : ℕ} → EndsBy c end → length c.names ≡ name_length * most_scripts → length c.lengths ≡ most_scripts → Lent c.names c.lengths c.count end
lent_by e n l = record { few = e.few; named = omega (arith, e.few); sized = omega (arith, e.few); ends = e.ends }

-- With room, and a text that is the answer's whatever the other bytes are.
module _ (text_of : Answer → List ℕ) (kept : List ℕ) (more : ℕ) (old : List ℕ) where
  pub prints_none : length old / byte_room ≤ length kept → PrintsFor text_of kept more old old 0
  prints_none h =
      let s : length old < room_for kept = room-short (length old) (length kept) h in
      record {
        text = λ k. absurd (omega arith);
        count = λ k. absurd (omega arith);
        few = λ k. absurd (omega arith);
        short = λ _. (refl, refl);
        fits = omega arith;
        counted = refl;
      }

  prints_text : {t out : List ℕ} {r : ℕ} → room_for kept ≤ length old → Appended old 0 t out r → ((rest : List ℕ) → Behind kept more rest → t ≡ text_of (read_as (kept ++ rest)))
      → (0 < more → length kept < longest → t ≡ text_of (refused CutShort)) → PrintsFor text_of kept more old out r
  prints_text {t} {out} {r} h a is few =
      let n : length out ≡ length t + length (drop r old) = ap length a.whole ∙ length-append t (drop r old) in
      let fits : r ≤ length out = omega (arith, a.end) in
      let c : r ≡ length t = omega (arith, a.end) in
      record {
        text = λ _ rest b. a.whole ∙ ap (λ (l : List ℕ). l ++ drop r old) (is rest b);
        count = λ _ rest b. c ∙ ap length (is rest b);
        few = λ _ m l. (a.whole ∙ ap (λ (x : List ℕ). x ++ drop r old) (few m l), c ∙ ap length (few m l));
        short = λ k. absurd (omega arith);
        fits = fits;
        counted = sym (length-take-le r out fits);
      }

-- What the reader says of the bytes.
empty : (rest : List ℕ) → length rest ≡ 0 → rest ≡ []
empty [] e = refl
empty (x ∷ rest) e = absurd (omega arith)

is_refused : (s : List ℕ) (g : Refusal) (a : Answer) → Tells (Err g) s a → a ≡ refused g
is_refused s g (refused h) t = let i : h ≡ g = cc in rw i
is_refused s g (holds es) t = let z : ◌≡◌ {A = ℕ} 0 1 = cc t.1 in absurd (omega arith)

-- the scripts of a bundle that is not refused
record Scripts (c : Contents) (s : List ℕ) : Type 0 where
  es : List Entry
  is : read_as s ≡ holds es
  held : Holds c (drop (contents_length (length es)) s) es

is_good : (c : Contents) (s : List ℕ) (a : Answer) → read_as s ≡ a → Tells (Ok c) s a → Scripts c s
is_good c s (refused h) i t = let z : ◌≡◌ {A = ℕ} 0 1 = cc in absurd (omega arith)
is_good c s (holds es) i t = let same : t.0 ≡ c = cc t.1 in record { es = es; is = i; held = rw same at t.2 }

reads_rest : (kept : List ℕ) (more : ℕ) (r : Result Contents Refusal) → ReadsCounted kept more r → (rest : List ℕ) → Behind kept more rest → Reads (kept ++ rest) r
reads_rest kept more r k rest b =
    elim (dec_lt 0 more) [
      | yes h ↦ k.first h (b.enough h) rest b.number
      | no h ↦
          let z : rest ≡ [] = empty rest (omega (arith, b.number)) in
          rw (z, append-nil kept) (k.whole (omega arith))
    ]

module _ (kept : List ℕ) (more : ℕ) where
  pub prints_refused : (text_of : Answer → List ℕ) (g : Refusal) (old out : List ℕ) (n : ℕ) → ReadsCounted kept more (Err g) → ((h : Refusal) → text_of (refused h) ≡ refusal_text h) → length kept < length old / byte_room
      → Appended old 0 (refusal_text g) out n → PrintsFor text_of kept more old out n
  prints_refused text_of g old out n k t h a =
      prints_text text_of kept more old (room-there (length old) (length kept) h) a
      (λ rest b. sym (ap text_of (is_refused (kept ++ rest) g (read_as (kept ++ rest)) (reads_rest kept more (Err g) k rest b).tells) ∙ t g))
      (λ m l. let i : g ≡ CutShort = cc (k.few m l) in ap refusal_text i ∙ sym (t CutShort))

  -- a bundle that is not refused is kept whole
  module _ (c : Contents) (k : ReadsCounted kept more (Ok c)) where
    none_more : more ≡ 0
    none_more =
        elim (dec_lt 0 more) [
          | no h ↦ omega arith
          | yes h ↦
              elim (dec_le longest (length kept)) [
                | no l ↦ let z : ◌≡◌ {A = ℕ} 0 1 = cc (k.few h (omega arith)) in absurd (omega arith)
                | yes l ↦
                    let s = kept ++ replicate more 0 in
                    let q = k.first h l (replicate more 0) (length-replicate {A = ℕ} more 0) in
                    let g = is_good c s (read_as s) refl q.tells in
                    absurd
                    (omega (
                      arith,
                      (fits_read s g.es g.is).short,
                      ap length (q.bundle g.es g.is),
                      length-append kept (replicate more 0),
                      length-replicate {A = ℕ} more 0,
                    ))
              ]
        ]

    scripts : Scripts c kept
    scripts = is_good c kept (read_as kept) refl (k.whole none_more).tells

    pub ends_there : EndsBy c (length kept)
    ends_there =
        record {
          few = omega (arith, (fits_read kept scripts.es scripts.is).few, scripts.held.count);
          ends = omega (arith, end-held scripts.held, (accepted kept scripts.es scripts.is).size);
        }

    pub ends-short : EndsBy c longest
    ends-short =
        let d = ends_there in
        record {
          few = d.few;
          ends =
              omega
              (arith, d.ends, (fits_read kept scripts.es scripts.is).short, ap length ((k.whole none_more).bundle scripts.es scripts.is));
        }

    pub list_room : (m : ℕ) → length kept < m / byte_room → byte_room * end_of c.count c.lengths ≤ m
    list_room m h = omega (arith, room-there m (length kept) h, ends_there.ends)

    told : (text_of : Answer → List ℕ) (rest : List ℕ) → Behind kept more rest → text_of (holds scripts.es) ≡ text_of (read_as (kept ++ rest))
    told text_of rest b =
        let z : rest ≡ [] = empty rest (omega (arith, b.number, none_more)) in
        rw (z, append-nil kept) (ap text_of (sym scripts.is))

    never_few : {X : Type 0} → 0 < more → X
    never_few h = absurd (omega (arith, none_more))

    module _ (old out : List ℕ) (n : ℕ) (h : length kept < length old / byte_room) where
      pub prints_scripts : Appended old 0 (scripts_at kept (rows_in c)) out n → PrintsFor run_text kept more old out n
      prints_scripts a =
          let is : scripts_at kept (rows_in c) ≡ scripts_text scripts.es =
          ap (scripts_at kept) (rows-held scripts.held) ∙ ap scripts_text (scripts_placed kept (contents_length (length scripts.es)) scripts.es scripts.held.whole) in
          prints_text run_text kept more old (room-there (length old) (length kept) h) a (λ rest b. is ∙ told run_text rest b) (λ m l. never_few m)

      pub prints_rows : Appended old 0 (rows_text (rows_in c)) out n → PrintsFor list_text kept more old out n
      prints_rows a =
          prints_text list_text kept more old (room-there (length old) (length kept) h) a (λ rest b. ap rows_text (rows-held scripts.held) ∙ told list_text rest b) (λ m l. never_few m)

-- a refused bundle prints the same by both
pub refused_text : (j : Job) (g : Refusal) → text_for j (refused g) ≡ refusal_text g
refused_text Run g = refl
refused_text Listed g = refl
