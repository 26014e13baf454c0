-- A buffer that is written on: nothing, one byte, and one stretch after another.
use Prim.Native.Nat.{ℕ, ◌+◌, ◌≤◌, ◌<◌}
use native.Mathlib.Nat.{add_assoc}
use native.Mathlib.Numerals.{add-one}
use native.Mathlib.Omega.{arith}
use mathlib.Core.Path.{◌≡◌, refl, ap, sym, ◌∙◌}
use mathlib.Core.List.{List, [], ◌∷◌, ◌++◌, append_assoc}
use lib.ListN.{length, get_or, take, drop, set, length-append, length-drop, take-append-drop}
use lib.Seq.{set_split, take_at, drop_at, drop-drop, length-take-le, take-suc, take_all}
use Rattle.text.specs.Writing.{Appended}

pub appended_none : (old : List ℕ) (at : ℕ) → Appended old at [] old at
appended_none old at = record { end = omega arith; whole = sym (take-append-drop at old) }

pub appended_one : (old : List ℕ) (at b : ℕ) → at < length old → Appended old at (b ∷ []) (set old at b) (at + 1)
appended_one old at b h = record { end = refl; whole = rw add-one (set_split old at b h) }

module _ {old : List ℕ} {at : ℕ} {xs new : List ℕ} {r : ℕ} (p : Appended old at xs new r) (fits : at + length xs ≤ length old) where
  front : length (take at old ++ xs) ≡ r
  front = length-append (take at old) xs ∙ rw (length-take-le at old (omega arith)) (sym p.end)

  grouped : new ≡ (take at old ++ xs) ++ drop r old
  grouped = p.whole ∙ sym (append_assoc (take at old) xs (drop r old))

  -- what stands up to the new place, and behind it
  pub appended_first : take r new ≡ take at old ++ xs
  appended_first = rw grouped (take_at (take at old ++ xs) (drop r old) r front)

  pub appended_rest : drop r new ≡ drop r old
  appended_rest = rw grouped (drop_at (take at old ++ xs) (drop r old) r front)

  pub appended_length : length new ≡ length old
  appended_length = ap length grouped ∙ length-append (take at old ++ xs) (drop r old) ∙ rw (front, length-drop) (omega (arith, p.end))

  pub appended_then : {ys newer : List ℕ} {q : ℕ} → Appended new r ys newer q → Appended old at (xs ++ ys) newer q
  appended_then {ys} {newer} {q} k =
      let onward : drop q new ≡ drop q old =
      rw k.end (sym (drop-drop (length ys) r new) ∙ ap (drop (length ys)) appended_rest ∙ drop-drop (length ys) r old) in
      record {
        end = rw length-append (omega (arith, p.end, k.end));
        whole = k.whole ∙ rw (appended_first, onward) (simp append_assoc);
      }
