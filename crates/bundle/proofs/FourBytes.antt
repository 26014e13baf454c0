-- Four bytes as a number, and a number as four bytes.
use Prim.Native.Nat.{ℕ, suc, ◌+◌, ◌/◌, ◌%◌, ◌≤◌}
use native.Mathlib.Numerals.{add-one, add-two, add-three}
use native.Mathlib.Omega.{arith}
use mathlib.Core.Path.{◌≡◌}
use mathlib.Core.List.{List, [], ◌∷◌}
use lib.ListN.{length, get_or, take, drop}
use lib.Seq.{drop-cons}
use Rattle.std.specs.Int.{w32, to_le_bytes, from_le_bytes}
use Rattle.bundle_rules.specs.Numbers.{bytes_of, value_of, Bytes, NumberAt}

four : (a b c d : ℕ) → from_le_bytes w32 (a ∷ b ∷ c ∷ d ∷ []) ≡ value_of (a ∷ b ∷ c ∷ d ∷ [])
unfolding value_of
four a b c d = omega arith

pub number_here : (s : List ℕ) (at r : ℕ) → at + 4 ≤ length s → r ≡ from_le_bytes w32 (get_or s at 0 ∷ get_or s (at + 1) 0 ∷ get_or s (at + 2) 0 ∷ get_or s (at + 3) 0 ∷ []) → Bytes s → NumberAt s at r
number_here s at r h e k =
    let l : take 4 (drop at s) ≡ get_or s at 0 ∷ get_or s (at + 1) 0 ∷ get_or s (at + 2) 0 ∷ get_or s (at + 3) 0 ∷ [] =
    rw (add-one, add-two, add-three) (rw (drop-cons s at 0 (omega arith), drop-cons s (suc at) 0 (omega arith), drop-cons s (suc (suc at)) 0 (omega arith), drop-cons s (suc (suc (suc at))) 0 (omega arith))) in
    record { value = rw l (rw e (four (get_or s at 0) (get_or s (at + 1) 0) (get_or s (at + 2) 0) (get_or s (at + 3) 0))); bytes = k }

pub number_bytes : (n : ℕ) → to_le_bytes w32 n ≡ bytes_of 4 n
unfolding bytes_of
number_bytes n =
    let b : n / 65536 % 256 ≡ n / 256 / 256 % 256 = omega arith in
    let c : n / 16777216 % 256 ≡ n / 256 / 256 / 256 % 256 = omega arith in
    rw (← b, ← c)
