-- The last part of a path, and the name that it makes.
use Prim.Native.Nat.{ℕ, zero, suc, ◌+◌, ◌-◌, ◌≤◌, ◌<◌}
use native.Mathlib.Nat.{sub-zero}
use native.Mathlib.Omega.{arith}
use mathlib.Core.Path.{◌≡◌, refl, ap, sym, ◌∙◌}
use mathlib.Core.List.{List, [], ◌∷◌}
use borrow.Author.Tests.{le-leb, lt-leb}
use lib.ListN.{length, take, drop, length-drop}
use lib.Seq.{take_all}
use Rattle.rules.specs.Text.{parts, before}
use Rattle.rules.proofs.Parts.{parts_front, parts_onward, parts-ended}
use Rattle.text.specs.Reading.{Found}
use Rattle.text.specs.Writing.{Appended}
use Rattle.text.proofs.Scanning.{found_part}
use Rattle.bundle_rules.specs.Bundled.{name_length}
use Rattle.bundle_jobs.specs.Named.{last_of, last_part, zero_bytes, name_for}

last_more : (p : List ℕ) (b : ℕ) (s : List ℕ) → last_of (p ∷ parts b s) ≡ last_of (parts b s)
unfolding last_of
last_more p b s = rw (parts_front b s)

last_one : (p : List ℕ) → last_of (p ∷ []) ≡ p
unfolding last_of
last_one p = refl

module _ {path : List ℕ} {at e : ℕ} (f : Found path at 47 e) (so_far : last_part (drop at path) ≡ last_part path) where
  pub part_on : e < length path → last_part (drop (e + 1) path) ≡ last_part path
  part_on h = sym (last_more (before 47 (drop at path)) 47 (drop (e + 1) path)) ∙ ap last_of (sym (parts_onward 47 path at e f.place h)) ∙ so_far

  pub part_last : length path ≤ e → drop at path ≡ last_part path
  part_last h =
      let all : take (e - at) (drop at path) ≡ drop at path = take_all (e - at) (drop at path) (rw length-drop (omega arith)) in
      sym all ∙ found_part path at 47 e f ∙ sym (last_one (before 47 (drop at path))) ∙ ap last_of (sym (parts-ended 47 path at e f.place h)) ∙ so_far

-- Padded to 16.
drop-zeros : (n m : ℕ) → drop n (zero_bytes m) ≡ zero_bytes (m - n)
drop-zeros zero m = rw sub-zero
drop-zeros (suc n) zero = let z : 0 - suc n ≡ 0 = omega arith in rw z
drop-zeros (suc n) (suc m) = let z : suc m - suc n ≡ m - n = omega arith in rw z (drop-zeros n m)

module _ (path : List ℕ) (at : ℕ) (is : drop at path ≡ last_part path) where
  part_size : length (last_part path) ≡ length path - at
  part_size = ap length (sym is) ∙ length-drop at path

  pub name-long : 16 < length path - at → zero_bytes 16 ≡ name_for path
  name-long h = rw (lt-leb (length (last_part path)) name_length (omega (arith, part_size)))

  pub name-made : {new : List ℕ} {r : ℕ} → length path - at ≤ 16 → Appended (zero_bytes 16) 0 (take (length path - at) (drop at path)) new r → new ≡ name_for path
  name-made {new} {r} h a =
      let all : take (length path - at) (drop at path) ≡ last_part path = take_all (length path - at) (drop at path) (rw length-drop (omega arith)) ∙ is in
      let n : r ≡ length (last_part path) = omega (arith, a.end, ap length all) in
      a.whole ∙ rw (all, n, drop-zeros (length (last_part path)) 16, le-leb (length (last_part path)) name_length (omega (arith, part_size)))
