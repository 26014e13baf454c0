-- Decimal numbers: the last digit of a number stands behind those of its tenth; reading a printed number gives it back, and so does printing
-- one that was read.
use Rattle.std.specs.Prelude.{Some}
use Prim.Native.Nat.{ℕ, zero, suc, ◌+◌, ◌*◌, ◌-◌, ◌/◌, ◌%◌, ◌^◌, ◌≤◌, ◌<◌}
use native.Mathlib.Nat.{div-add-mod'}
use native.Mathlib.Decide.{dec_lt}
use native.Mathlib.Omega.{arith}
use mathlib.Core.Path.{◌≡◌, refl, ap, sym, ◌∙◌}
use mathlib.Core.Bool.{true, ◌&&◌, false≢true}
use mathlib.Core.List.{List, [], ◌∷◌, ◌++◌, append_assoc, append-nil}
use lib.Dec.{leb, eqb}
use lib.ListN.{length, length-append}
use borrow.Author.Tests.{leb-true, eqb-false, not-true, lt-ltb, le-ltb, le-leb, ne_eqb}
use Rattle.rules.specs.Sizes.{largest}
use Rattle.rules.specs.Text.{space, before, is_digit, all_digits, no_leading_zero, value_from, number_of, last_digits, digits}
use Rattle.rules.proofs.Bools.{both}
use Rattle.rules.proofs.Options.{said_if}

-- Printing.

small : (k n : ℕ) → n < 10 → last_digits (suc k) n ≡ (48 + n) ∷ []
unfolding last_digits
small k n h = rw (lt-ltb n 10 h, last_digits)

large : (k n : ℕ) → 10 ≤ n → last_digits (suc k) n ≡ last_digits k (n / 10) ++ (48 + n % 10) ∷ []
unfolding last_digits
large k n h = rw (le-ltb n 10 h, last_digits)

-- room for more digits than there are changes nothing
enough : (k j n : ℕ) → n < k → n < j → last_digits k n ≡ last_digits j n
enough zero j n h l = absurd (omega arith)
enough (suc k) zero n h l = absurd (omega arith)
enough (suc k) (suc j) n h l =
    elim (dec_lt n 10) [
      | yes s ↦ small k n s ∙ sym (small j n s)
      | no s ↦
          large k n (omega arith)
          ∙ ap (λ (ds : List ℕ). ds ++ (48 + n % 10) ∷ []) (enough k j (n / 10) (omega arith) (omega arith))
          ∙ sym (large j n (omega arith))
    ]

pub digits_small : (n : ℕ) → n < 10 → digits n ≡ (48 + n) ∷ []
unfolding digits
digits_small n h = small n n h

pub digits-large : (n : ℕ) → 10 ≤ n → digits n ≡ digits (n / 10) ++ (48 + n % 10) ∷ []
unfolding digits
digits-large n h = large n n h ∙ ap (λ (ds : List ℕ). ds ++ (48 + n % 10) ∷ []) (enough n (suc (n / 10)) (n / 10) (omega arith) (omega arith))

-- what holds of one digit, and of one digit more, holds of all digits
module _ (P : ℕ → List ℕ → Type 0)
    (one : (n : ℕ) → n < 10 → P n ((48 + n) ∷ []))
    (more : (n : ℕ) (ds : List ℕ) → 10 ≤ n → P (n / 10) ds → P n (ds ++ (48 + n % 10) ∷ []))
  where
    within : (k n : ℕ) → n < k → P n (digits n)
    within zero n h = absurd (omega arith)
    within (suc k) n h =
        elim (dec_lt n 10) [
          | yes s ↦ rw (digits_small n s) (one n s)
          | no s ↦ rw (digits-large n (omega arith)) (more n (digits (n / 10)) (omega arith) (within k (n / 10) (omega arith)))
        ]

    by_digits : (n : ℕ) → P n (digits n)
    by_digits n = within (suc n) n (omega arith)

-- below a power of ten there is room
longer : (m : ℕ) (ds : List ℕ) → 10 ≤ m → ((j : ℕ) → m / 10 < 10 ^ suc j → length ds ≤ suc j) → (j : ℕ) → m < 10 ^ suc j → length (ds ++ (48 + m % 10) ∷ []) ≤ suc j
longer m ds l r zero h = absurd (omega arith)
longer m ds l r (suc j) h = rw length-append (omega (arith, r j (omega (arith, div-add-mod' m 10))))

pub digits-length : (n k : ℕ) → n < 10 ^ suc k → length (digits n) ≤ suc k
digits-length = by_digits (λ n ds. (k : ℕ) → n < 10 ^ suc k → length ds ≤ suc k) (λ n s k h. omega arith) longer

-- Reading.

value_digit : (n d : ℕ) (rest : List ℕ) → value_from n ((48 + d) ∷ rest) ≡ value_from (n * 10 + d) rest
unfolding value_from
value_digit n d rest = let e : 48 + d - 48 ≡ d = omega arith in rw e

all_digit : (d : ℕ) (rest : List ℕ) → d < 10 → all_digits ((48 + d) ∷ rest) ≡ all_digits rest
unfolding all_digits
all_digit d rest h = rw (le-leb 48 (48 + d) (omega arith), le-leb (48 + d) 57 (omega arith))

-- the digits of a number say it, whatever stands behind them
pub digits_value : (n : ℕ) (rest : List ℕ) → value_from 0 (digits n ++ rest) ≡ value_from n rest
digits_value =
    by_digits (λ n ds. (rest : List ℕ) → value_from 0 (ds ++ rest) ≡ value_from n rest)
    (λ n s rest. value_digit 0 n rest ∙ ap (λ (m : ℕ). value_from m rest) (omega arith))
    (λ n ds l r rest. rw append_assoc (r ((48 + n % 10) ∷ rest) ∙ value_digit (n / 10) (n % 10) rest ∙ ap (λ (m : ℕ). value_from m rest) (div-add-mod' n 10)))

digits-digits : (n : ℕ) (rest : List ℕ) → all_digits (digits n ++ rest) ≡ all_digits rest
digits-digits =
    by_digits (λ n ds. (rest : List ℕ) → all_digits (ds ++ rest) ≡ all_digits rest)
    (λ n s rest. all_digit n rest s)
    (λ n ds l r rest. rw append_assoc (r ((48 + n % 10) ∷ rest) ∙ all_digit (n % 10) rest (omega arith)))

-- no zero stands in front of another digit
first_digit : (d : ℕ) (rest : List ℕ) → 0 < d → no_leading_zero ((48 + d) ∷ rest) ≡ true
unfolding no_leading_zero
first_digit d [] h = refl
first_digit d (x ∷ rest) h = rw (ne_eqb (48 + d) 48 (λ e. omega arith))

digits-start : (n : ℕ) → 0 < n → (rest : List ℕ) → no_leading_zero (digits n ++ rest) ≡ true
digits-start =
    by_digits (λ n ds. 0 < n → (rest : List ℕ) → no_leading_zero (ds ++ rest) ≡ true)
    (λ n s h rest. first_digit n rest h)
    (λ n ds l r h rest. rw append_assoc (r (omega arith) ((48 + n % 10) ∷ rest)))

digits-plain : (n : ℕ) → no_leading_zero (digits n) ≡ true
unfolding no_leading_zero
digits-plain zero = rw (digits_small 0 (omega arith))
digits-plain (suc n) = rw (← append-nil (digits (suc n))) (digits-start (suc n) (omega arith) [])

value_of_digits : (n : ℕ) → value_from 0 (digits n) ≡ n
unfolding value_from
value_of_digits n = rw (← append-nil (digits n)) (digits_value n [])

all_of_digits : (n : ℕ) → all_digits (digits n) ≡ true
unfolding all_digits
all_of_digits n = rw (← append-nil (digits n)) (digits-digits n [])

-- Reading a printed number gives the number back.
pub read-printed : (n : ℕ) → n ≤ largest → number_of (digits n) ≡ Some n
unfolding number_of
read-printed n h = rw (digits-plain n, all_of_digits n, value_of_digits n, le-leb n largest h)

is_digit_lem : (c : ℕ) → is_digit c ≡ true → (48 ≤ c) × (c ≤ 57)
is_digit_lem c e = let s = both (leb 48 c) (leb c 57) e in (leb-true 48 c s.0, leb-true c 57 s.1)

-- Digits have no space among them.
no_space : (f : List ℕ) → all_digits f ≡ true → before space f ≡ f
unfolding all_digits before
no_space [] a = refl
no_space (c ∷ cs) a =
    let b = both (is_digit c) (all_digits cs) a in
    let d = is_digit_lem c b.0 in
    rw (ne_eqb c space (λ e. omega arith)) (ap (λ (ds : List ℕ). c ∷ ds) (no_space cs b.1))

pub digits-free : (n : ℕ) → before space (digits n) ≡ digits n
digits-free n = no_space (digits n) (all_of_digits n)

-- A field that says a number.

-- what number_of asks of a field, and the number that it says
record Number (f : List ℕ) (n : ℕ) : Type 0 where
  plain : no_leading_zero f ≡ true
  all : all_digits f ≡ true
  fits : n ≤ largest
  value : value_from 0 f ≡ n

number : (f : List ℕ) (n : ℕ) → number_of f ≡ Some n → Number f n
unfolding number_of
number f n e =
    let s = said_if (no_leading_zero f && all_digits f && leb (value_from 0 f) largest) (value_from 0 f) n e in
    let t = both (no_leading_zero f && all_digits f) (leb (value_from 0 f) largest) s.0 in
    let u = both (no_leading_zero f) (all_digits f) t.0 in
    record { plain = u.0; all = u.1; fits = omega (arith, leb-true (value_from 0 f) largest t.1); value = s.1 }

pub read_fits : (f : List ℕ) (n : ℕ) → number_of f ≡ Some n → n ≤ largest
read_fits f n e = (number f n e).fits

digits-next : (n d : ℕ) → 0 < n → d < 10 → digits (n * 10 + d) ≡ digits n ++ (48 + d) ∷ []
digits-next n d h l =
    let q : (n * 10 + d) / 10 ≡ n = omega arith in
    let r : (n * 10 + d) % 10 ≡ d = omega arith in
    digits-large (n * 10 + d) (omega arith) ∙ rw (q, r)

-- digits behind those of a number are the digits of what they say together
digits-behind : (n : ℕ) (cs : List ℕ) → 0 < n → all_digits cs ≡ true → digits n ++ cs ≡ digits (value_from n cs)
unfolding all_digits value_from
digits-behind n [] h a = append-nil (digits n)
digits-behind n (c ∷ cs) h a =
    let b = both (is_digit c) (all_digits cs) a in
    let d = is_digit_lem c b.0 in
    let e : 48 + (c - 48) ≡ c = omega arith in
    let s : digits (n * 10 + (c - 48)) ≡ digits n ++ c ∷ [] = digits-next n (c - 48) h (omega arith) ∙ rw e in
    sym (append_assoc (digits n) (c ∷ []) cs) ∙ ap (λ (ds : List ℕ). ds ++ cs) (sym s) ∙ digits-behind (n * 10 + (c - 48)) cs (omega arith) b.1

digit_alone : (c : ℕ) → is_digit c ≡ true → digits (0 * 10 + (c - 48)) ≡ c ∷ []
digit_alone c a =
    let d = is_digit_lem c a in
    let e : 48 + (0 * 10 + (c - 48)) ≡ c = omega arith in
    digits_small (0 * 10 + (c - 48)) (omega arith) ∙ rw e

digits_of_value : (f : List ℕ) → no_leading_zero f ≡ true → all_digits f ≡ true → f ≡ digits (value_from 0 f)
unfolding no_leading_zero all_digits value_from
digits_of_value [] p a = absurd (false≢true p)
digits_of_value (c ∷ []) p a = sym (digit_alone c (both (is_digit c) true a).0)
digits_of_value (c ∷ d ∷ cs) p a =
    let b = both (is_digit c) (all_digits (d ∷ cs)) a in
    let n : c ≡ 48 → ⊥ = eqb-false c 48 (not-true (eqb c 48) p) in
    let h : 0 < 0 * 10 + (c - 48) = let r = is_digit_lem c b.0 in omega arith in
    ap (λ (ds : List ℕ). ds ++ d ∷ cs) (sym (digit_alone c b.0)) ∙ digits-behind (0 * 10 + (c - 48)) (d ∷ cs) h b.1

-- Printing a number that was read gives its field back.
pub printed-read : (f : List ℕ) (n : ℕ) → number_of f ≡ Some n → f ≡ digits n
printed-read f n e = let r = number f n e in digits_of_value f r.plain r.all ∙ ap digits r.value
