-- Where a byte is found: there ends the first part, and between a place and it stands that part.
use Prim.Native.Nat.{ℕ, ◌+◌, ◌-◌, ◌≤◌}
use native.Mathlib.Omega.{arith}
use mathlib.Core.Path.{◌≡◌, refl, ◌∙◌}
use mathlib.Core.List.{List, [], ◌∷◌}
use Rattle.std.proofs.lemmas.Bool.Decides.{nat_tests}
use lib.Dec.{ltb}
use lib.ListN.{length, take, drop, length-drop}
use lib.Seq.{take_all}
use Rattle.std.specs.Prelude.{Option, None, Some, position, unwrap_or, eqb}
use Rattle.std.specs.List.{position_or_len}
use Rattle.std.proofs.lemmas.List.Recursion.{is_position_or_len}
use mathlib.Core.Bool.{Bool, true, false, cond}
use Rattle.rules.specs.Text.{before}
use Rattle.rules.proofs.Parts.{before-length, before-take}
use Rattle.text.specs.Reading.{Found}

-- the first part is as long as the first b stands far, or as all where there is none
before_is_position : (b : ℕ) (xs : List ℕ) → length (before b xs) ≡ position_or_len (λ x. eqb x b) xs
unfolding before
before_is_position b xs = is_position_or_len (λ l. length (before b l)) (λ x. eqb x b) refl (λ x l. go x l (eqb x b)) xs
  where
    go : (x : ℕ) (l : List ℕ) (t : Bool) → length (cond t [] (x ∷ before b l)) ≡ cond t 0 (1 + length (before b l))
    go x l true = refl
    go x l false = omega arith

unwrapped : (k m : ℕ) → k ≤ m → unwrap_or (cond (ltb k m) (Some k) None) m ≡ k
unwrapped k m h = grind (arith, nat_tests)

-- from a place on stand so many bytes, and the first b among them was looked for
pub found_position : (s : List ℕ) (start b n : ℕ) (r : Option ℕ) → start ≤ length s → r ≡ position (λ x. eqb x b) (take (length s - start) (drop start s))
    → n ≡ unwrap_or r (length (take (length s - start) (drop start s))) → Found s start b (start + n)
found_position s start b n r h e q =
    let all : take (length s - start) (drop start s) ≡ drop start s = take_all (length s - start) (drop start s) (omega (arith, length-drop start s)) in
    let k : n ≡ length (before b (drop start s)) = q ∙ rw (e, all, ← before_is_position b (drop start s)) (unwrapped _ _ (before-length b (drop start s))) in
    record { place = omega arith; within = omega (arith, before-length b (drop start s), length-drop start s) }

-- from a place to where a b was found stands the first part
pub found_part : (s : List ℕ) (at b e : ℕ) → Found s at b e → take (e - at) (drop at s) ≡ before b (drop at s)
found_part s at b e f =
    let n : e - at ≡ length (before b (drop at s)) = omega (arith, f.place) in
    rw n (before-take b (drop at s))
