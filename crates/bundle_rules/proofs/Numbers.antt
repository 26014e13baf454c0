-- A number and its bytes: each gives the other back, however many bytes there are.
use Prim.Native.Nat.{ℕ, zero, suc, ◌+◌, ◌*◌, ◌/◌, ◌%◌, ◌^◌, ◌≤◌, ◌<◌}
use native.Mathlib.Nat.{pow-suc}
use native.Mathlib.Omega.{arith}
use mathlib.Core.Path.{◌≡◌, refl, ap}
use mathlib.Core.List.{List, [], ◌∷◌}
use lib.ListN.{length, take, drop}
use lib.Seq.{length-take-le, get_or-drop}
use Rattle.bundle_rules.specs.Numbers.{bytes_of, value_of, Bytes}

pub bytes-length : (w n : ℕ) → length (bytes_of w n) ≡ w
unfolding bytes_of
bytes-length zero n = refl
bytes-length (suc w) n = ap suc (bytes-length w (n / 256))

pub value-bytes : (w n : ℕ) → n < 256 ^ w → value_of (bytes_of w n) ≡ n
unfolding bytes_of value_of
value-bytes zero n h = omega arith
value-bytes (suc w) n h =
    let rest : value_of (bytes_of w (n / 256)) ≡ n / 256 = value-bytes w (n / 256) (omega arith) in
    omega arith

pub value-below : (bs : List ℕ) → Bytes bs → value_of bs < 256 ^ length bs
unfolding value_of
value-below [] h = omega arith
value-below (b ∷ bs) h =
    let rest : value_of bs < 256 ^ length bs = value-below bs (λ i. h (suc i)) in
    rw (pow-suc 256 (length bs)) (omega (arith, h 0))

pub bytes-value : (bs : List ℕ) → Bytes bs → bytes_of (length bs) (value_of bs) ≡ bs
unfolding bytes_of value_of
bytes-value [] h = refl
bytes-value (b ∷ bs) h =
    let low : (b + 256 * value_of bs) % 256 ≡ b = omega (arith, h 0) in
    let high : (b + 256 * value_of bs) / 256 ≡ value_of bs = omega (arith, h 0) in
    rw (low, high) (ap (λ (r : List ℕ). b ∷ r) (bytes-value bs (λ i. h (suc i))))

-- parts of bytes are bytes
pub take-bytes : (n : ℕ) (s : List ℕ) → Bytes s → Bytes (take n s)
take-bytes zero s h i = omega arith
take-bytes (suc n) [] h i = omega arith
take-bytes (suc n) (b ∷ s) h zero = h 0
take-bytes (suc n) (b ∷ s) h (suc i) = take-bytes n s (λ j. h (suc j)) i

pub drop-bytes : (n : ℕ) (s : List ℕ) → Bytes s → Bytes (drop n s)
drop-bytes n s h i = rw (get_or-drop n s i 0) (h (n + i))

-- the first w bytes, read and written again
pub number-back : (w : ℕ) (s : List ℕ) → Bytes s → w ≤ length s → bytes_of w (value_of (take w s)) ≡ take w s
number-back w s h l = rw (length-take-le w s l) at (bytes-value (take w s) (take-bytes w s h))
