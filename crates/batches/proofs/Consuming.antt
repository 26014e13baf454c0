-- Eating batches, and the loop that does it: what is left to eat from the ring as it is now makes the meal that was to be made.
use Prim.Native.Nat.{ℕ, zero, suc, ◌+◌, ◌*◌, ◌-◌, ◌%◌, ◌≤◌, ◌<◌}
use native.Mathlib.Omega.{arith}
use mathlib.Core.Path.{◌≡◌, refl, sym, ap, ◌∙◌}
use mathlib.Core.List.{List, [], ◌∷◌}
use borrow.Author.Tests.{lt-ltb, le-ltb}
use lib.ListN.{length, get_or, set, length-set}
use Rattle.rules.specs.Sizes.{batch_count, width}
use Rattle.rules.specs.Clock.{Clock, join}
use Rattle.rules.specs.State.{Batch}
use Rattle.rules.specs.Taking.{Meal, eat}
use Rattle.clock.specs.declared.VectorClock.{VectorClock}
use Rattle.tables.specs.Table.{row}
use Rattle.batches.specs.View.{Ring, ring, batch_at, batches_of, InRange, Ate}
use Rattle.batches.proofs.Rings.{ring-next}
use Rattle.batches.proofs.Batching.{front, shrunk}

-- The rule, by cases.

eat-nothing : (bs : List Batch) (n : ℕ) (c : Clock) → n ≡ 0 → eat bs n c ≡ record { clock = c; rest = bs }
unfolding eat
eat-nothing [] n c e = refl
eat-nothing (b ∷ bs) zero c e = refl
eat-nothing (b ∷ bs) (suc n) c e = absurd (omega arith)

eat_none : (n : ℕ) (c : Clock) → eat [] n c ≡ record { clock = c; rest = [] }
unfolding eat
eat_none n c = refl

eat_part : (b : Batch) (bs : List Batch) (n : ℕ) (c : Clock) → 0 < n → n < b.size → eat (b ∷ bs) n c ≡ record { clock = join c b.clock; rest = record { size = b.size - n; clock = b.clock } ∷ bs }
unfolding eat
eat_part b bs zero c p l = absurd (omega arith)
eat_part b bs (suc n) c p l = rw (lt-ltb (suc n) b.size l)

eat-whole : (b : Batch) (bs : List Batch) (n : ℕ) (c : Clock) → 0 < n → b.size ≤ n → eat (b ∷ bs) n c ≡ eat bs (n - b.size) (join c b.clock)
unfolding eat
eat-whole b bs zero c p l = absurd (omega arith)
eat-whole b bs (suc n) c p l = rw (le-ltb (suc n) b.size l)

-- what the loop keeps
pub record Turn (out : Ring) (acc : VectorClock) (left : ℕ) (m : Meal) : Type 0 where
  pub range : InRange out.head out.count
  pub sizes : length out.sizes ≡ batch_count
  pub rows : length out.rows ≡ batch_count * width
  pub meal : eat (batches_of out) left acc.0 ≡ m

module _ (out : Ring) (acc : VectorClock) (left : ℕ) (m : Meal) (t : Turn out acc left m) where
  -- a turn at a front batch that is larger than what is left, and at one that is not
  module _ (c next : VectorClock) (hungry : 0 < left) (some_left : 0 < out.count) (is_front : c.0 ≡ row width out.rows out.head) (joins : next.0 ≡ join acc.0 c.0) where
    abbrev front_batch : Batch
    front_batch = batch_at width out.sizes out.rows out.head

    pub turn_part : left < get_or out.sizes out.head 0 → Turn (record { sizes = set out.sizes out.head (get_or out.sizes out.head 0 - left); rows = out.rows; head = out.head; count = out.count }) next 0 m
    turn_part l =
        record {
          range = record { head = t.range.head; count = t.range.count };
          sizes = rw length-set t.sizes;
          rows = t.rows;
          meal =
              rw (
                eat-nothing _ 0 next.0 refl,
                shrunk width out.sizes out.rows t.sizes out.head out.count t.range.head t.range.count some_left,
                joins,
                is_front,
                ← t.meal,
                front width out.sizes out.rows t.sizes out.head out.count t.range.head t.range.count some_left,
                eat_part front_batch _ left acc.0 hungry l,
              );
        }

    pub turn-whole : get_or out.sizes out.head 0 ≤ left → Turn (record { sizes = out.sizes; rows = out.rows; head = (out.head + 1) % batch_count; count = out.count - 1 }) next (left - get_or out.sizes out.head 0) m
    turn-whole l =
        record {
          range = record { head = omega arith; count = omega (arith, t.range) };
          sizes = t.sizes;
          rows = t.rows;
          meal =
              rw (
                joins,
                is_front,
                ← t.meal,
                front width out.sizes out.rows t.sizes out.head out.count t.range.head t.range.count some_left,
                eat-whole front_batch _ left acc.0 hungry l,
                ring-next,
              );
        }

  -- the end: nothing left to eat, or no batch left
  meal_made : record { clock = acc.0; rest = batches_of out } ≡ m → Ate out acc m
  meal_made e =
      record {
        holds = record { range = t.range; view = ap (λ (x : Meal). x.rest) e };
        clock = ap (λ (x : Meal). x.clock) e;
      }

  pub nothing_left : left ≤ 0 → Ate out acc m
  nothing_left z = meal_made (sym (eat-nothing (batches_of out) left acc.0 (omega arith)) ∙ t.meal)

  pub no_batch : out.count ≤ 0 → Ate out acc m
  unfolding ring
  no_batch l =
      let z : out.count ≡ 0 = omega arith in
      let n : batches_of out ≡ [] = rw z in
      meal_made (rw n (sym (eat_none left acc.0) ∙ (rw n at t.meal)))
