-- A number's digits in a buffer: one digit, or those of its tenth and one more.
use Prim.Native.Nat.{ℕ, ◌+◌, ◌/◌, ◌%◌, ◌≤◌, ◌<◌}
use native.Mathlib.Omega.{arith}
use mathlib.Core.Path.{ap, ◌∙◌}
use mathlib.Core.List.{List, [], ◌∷◌}
use lib.ListN.{length, set, length-append}
use Rattle.rules.specs.Text.{digits}
use Rattle.rules.proofs.Decimal.{digits_small, digits-large}
use Rattle.text.specs.Writing.{Appended}
use Rattle.text.proofs.Buffer.{appended_one, appended_length, appended_then}

module _ (old : List ℕ) (at n : ℕ) (room : at + length (digits n) ≤ length old) where
  pub room_one : n < 10 → at < length old
  room_one h = omega (arith, ap length (digits_small n h))

  pub print_one : n < 10 → Appended old at (digits n) (set old at (48 + n)) (at + 1)
  print_one h = rw (digits_small n h) (appended_one old at (48 + n) (room_one h))

  pub room_tenth : 10 ≤ n → at + length (digits (n / 10)) + 1 ≤ length old
  room_tenth h = omega (arith, ap length (digits-large n h) ∙ length-append (digits (n / 10)) ((48 + n % 10) ∷ []))

  module _ (new : List ℕ) (k : ℕ) (tenth : Appended old at (digits (n / 10)) new k) (h : 10 ≤ n) where
    fits : at + length (digits (n / 10)) ≤ length old
    fits = omega (arith, room_tenth h)

    pub room_more : k < length new
    room_more = omega (arith, room_tenth h, tenth.end, appended_length tenth fits)

    pub print_more : Appended old at (digits n) (set new k (48 + n % 10)) (k + 1)
    print_more = rw (digits-large n h) (appended_then tenth fits (appended_one new k (48 + n % 10) room_more))
