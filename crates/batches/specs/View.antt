-- What the ring by value and the lent arrays stand for in the rules, and what contracts say of a result.
use Rattle.std.specs.Prelude.{ℕ, zero, suc, ◌*◌, ◌%◌, ◌≤◌, ◌<◌, ◌≡◌, List, [], ◌∷◌, length, get_or, Option, Some, option_map}
use Rattle.std.specs.Option.{ForSome}
use Rattle.rules.specs.Sizes.{batch_count, width}
use Rattle.rules.specs.State.{Batch}
use Rattle.rules.specs.Taking.{Meal}
use Rattle.tables.specs.Table.{row}
use Rattle.clock.specs.declared.VectorClock.{VectorClock}
use Rattle.batches.specs.declared.PermitClocks.{PermitClocks}
use Rattle.batches.specs.declared.Batches.{Batches}
use Rattle.batches.specs.declared.Eaten.{Eaten}

-- n places of a ring of `cap` places, from h on
unfoldable pub ring : {A : Type 0} → (ℕ → A) → ℕ → ℕ → ℕ → List A
ring at cap h zero = []
ring at cap h (suc n) = at (h % cap) ∷ ring at cap (suc h) n

abbrev pub batch_at : ℕ → List ℕ → List ℕ → ℕ → Batch
batch_at w sizes rows p = record { size = get_or sizes p 0; clock = row w rows p }

-- the ring with what its arrays hold
pub record Ring : Type 0 where
  pub sizes : List ℕ
  pub rows : List ℕ
  pub head : ℕ
  pub count : ℕ

abbrev pub ring_of : PermitClocks → List ℕ → List ℕ → Ring
ring_of b sizes rows = record { sizes = sizes; rows = rows; head = b.head; count = b.count }

-- the batches in the ring, from the front
abbrev pub batches_of : Ring → List Batch
batches_of b = ring (batch_at width b.sizes b.rows) batch_count b.head b.count

-- the batches, if they are set up
abbrev pub stands_in : Batches → List ℕ → List ℕ → Option (List Batch)
stands_in b sizes rows = option_map (λ (q : PermitClocks). batches_of (ring_of q sizes rows)) b.permit_clocks

-- arrays of the ring's size
pub record Lent (sizes rows : List ℕ) : Type 0 where
  pub places : length sizes ≡ batch_count
  pub entries : length rows ≡ batch_count * width

-- a ring within its places
pub record InRange (h n : ℕ) : Type 0 where
  pub head : h < batch_count
  pub count : n ≤ batch_count

-- Set up, the ring is within its places.
abbrev pub WellFormed : Batches → Type 0
WellFormed b = ForSome b.permit_clocks (λ (q : PermitClocks). InRange q.head q.count)

-- a ring that holds some batches
pub record Holds (b : Ring) (bs : List Batch) : Type 0 where
  pub range : InRange b.head b.count
  pub view : batches_of b ≡ bs

-- the ring and the clock after a meal
pub record Ate (b : Ring) (c : VectorClock) (m : Meal) : Type 0 where
  pub holds : Holds b m.rest
  pub clock : c.0 ≡ m.clock

-- set up, and these batches stand
pub record Stood (b : Batches) (sizes rows : List ℕ) (bs : List Batch) : Type 0 where
  pub formed : WellFormed b
  pub view : stands_in b sizes rows ≡ Some bs

-- the batches and the clock after a meal
pub record Fed (r : Eaten) (sizes rows : List ℕ) (m : Meal) : Type 0 where
  pub stood : Stood r.batches sizes rows m.rest
  pub clock : r.clock.0 ≡ m.clock

-- and with the clock of the last taking
pub record Took (r : Eaten) (sizes rows last : List ℕ) (m : Meal) (c : List ℕ) : Type 0 where
  pub fed : Fed r sizes rows m
  pub latest : row width last 0 ≡ c
