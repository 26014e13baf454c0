-- Batches add up: setting up, eating, taking and adding keep them so.
use Rattle.std.specs.Prelude.{Option, None, Some}
use Prim.Native.Nat.{ℕ, zero, suc, ◌+◌, ◌-◌, ◌≤◌, ◌<◌}
use native.Mathlib.Omega.{arith}
use mathlib.Core.Path.{◌≡◌, refl, sym, subst, ◌∙◌}
use mathlib.Core.Bool.{false}
use mathlib.Core.List.{List, [], ◌∷◌, ◌++◌}
use borrow.Author.Tests.{ltb-true, ltb-false, leb-false}
use lib.Dec.{ltb}
use lib.ListN.{length, length-append}
use Rattle.rules.specs.Sizes.{width, batch_count}
use Rattle.rules.specs.Clock.{Clock, join, empty}
use Rattle.rules.specs.State.{Batch, Permits}
use Rattle.rules.specs.Fresh.{first_batch}
use Rattle.rules.specs.Taking.{Meal, standing_of, standing, eat, taking, adding}
use Rattle.rules.specs.Refusals.{full}
use Rattle.rules.specs.Broken.{any_of, total, is_empty_batch}
use Rattle.rules.specs.Sound.{AddUp, SoundPermits}
use Rattle.rules.proofs.Bools.{by_cond, ◌nor◌, not-zero}
use Rattle.rules.proofs.Queues.{none_of, any_append}

pub total-append : (as' bs : List Batch) → total (as' ++ bs) ≡ total as' + total bs
unfolding total
total-append [] bs = omega arith
total-append (a ∷ as') bs = omega (arith, total-append as' bs)

-- a batch of its size
sized : (n : ℕ) (c : Clock) → 0 < n → any_of is_empty_batch (record { size = n; clock = c } ∷ []) ≡ false
unfolding any_of
sized n c h = not-zero n h nor refl

-- Setting up.

pub first_adds_up : (n : ℕ) (c : Clock) → AddUp (first_batch n c) n
unfolding first_batch any_of total
first_adds_up zero c = record { room = omega arith; sizes = refl; sum = refl }
first_adds_up (suc n) c = record { room = omega arith; sizes = sized (suc n) c (omega arith); sum = omega arith }

pub first-few : (n : ℕ) (c : Clock) → length (first_batch n c) ≤ 1
unfolding first_batch
first-few zero c = omega arith
first-few (suc n) c = omega arith

standing_adds_up : (n : ℕ) (o : Option (List Batch)) → ((bs : List Batch) → o ≡ Some bs → AddUp bs n) → AddUp (standing_of n o) n
unfolding standing_of
standing_adds_up n None h = first_adds_up n (empty width)
standing_adds_up n (Some bs) h = h bs refl

-- the batches that stand once they are set up add up to the stock
pub standing-sound : (p : Permits) → SoundPermits p → AddUp (standing p) p.stock
unfolding standing
standing-sound p h = standing_adds_up p.stock p.batches h

-- Eating.

pub record Eaten (bs : List Batch) (n : ℕ) (rest : List Batch) : Type 0 where
  pub room : length rest ≤ length bs
  pub sizes : any_of is_empty_batch rest ≡ false
  pub sum : total rest ≡ total bs - n

pub eat-leaves : (bs : List Batch) (n : ℕ) (c : Clock) → n ≤ total bs → any_of is_empty_batch bs ≡ false → Eaten bs n (eat bs n c).rest
unfolding eat total any_of
eat-leaves [] n c h z = record { room = omega arith; sizes = refl; sum = omega arith }
eat-leaves (b ∷ bs) zero c h z = record { room = omega arith; sizes = z; sum = omega arith }
eat-leaves (b ∷ bs) (suc n) c h z =
    let k = none_of is_empty_batch b bs z in
    by_cond (λ (m : Meal). Eaten (b ∷ bs) (suc n) m.rest) (ltb (suc n) b.size)
    (λ t.
    let l = ltb-true (suc n) b.size t in
    record { room = omega arith; sizes = not-zero (b.size - suc n) (omega arith) nor k.1; sum = omega arith })
    (λ t.
    let l = ltb-false (suc n) b.size t in
    let r = eat-leaves bs (suc n - b.size) (join c b.clock) (omega arith) k.1 in
    record { room = omega arith; sizes = r.sizes; sum = omega arith })

-- Taking and adding.

-- batches set up that add up
set_up : (p : Permits) (bs : List Batch) → p.batches ≡ Some bs → AddUp bs p.stock → SoundPermits p
set_up p bs e h cs f = let g : cs ≡ bs = cc in subst (λ (l : List Batch). AddUp l p.stock) (sym g) h

pub sound-taking : (n : ℕ) (c : Clock) (p : Permits) → n ≤ p.stock → SoundPermits p → SoundPermits (taking n c p).permits
unfolding taking
sound-taking n c p l h =
    let a = standing-sound p h in
    let r = eat-leaves (standing p) n (empty width) (omega arith) a.sizes in
    set_up (taking n c p).permits (eat (standing p) n (empty width)).rest refl
    (record { room = omega arith; sizes = r.sizes; sum = omega arith })

-- where there is room for one more
pub standing-room : (n : ℕ) (o : Option (List Batch)) → full o ≡ false → length (standing_of n o) < batch_count
unfolding standing_of
standing-room n None e = omega (arith, first-few n (empty width))
standing-room n (Some bs) e = leb-false batch_count (length bs) e

pub sound-adding : (n : ℕ) (c : Clock) (p : Permits) → 0 < n → full p.batches ≡ false → SoundPermits p → SoundPermits (adding n c p)
unfolding adding standing total any_of
sound-adding n c p l f h =
    let a = standing-sound p h in
    let b : List Batch = record { size = n; clock = c } ∷ [] in
    set_up (adding n c p) (standing p ++ b) refl (
    record {
      room = omega (arith, length-append (standing p) b, standing-room p.stock p.batches f);
      sizes = any_append is_empty_batch (standing p) b ∙ (a.sizes nor sized n c l);
      sum = total-append (standing p) b ∙ omega arith;
    }
    )
