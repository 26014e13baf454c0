-- Document 01, "Steps": setting up, taking, and the direct rule.
use Rattle.std.specs.Prelude.{ℕ, zero, suc, ◌+◌, ◌-◌, Bool, true, cond, ◌&&◌, ◌||◌, not, List, [], ◌∷◌, ◌++◌, ltb, leb, Option, None, Some}
use Rattle.rules.specs.declared.TaskId.{TaskId}
use Rattle.rules.specs.declared.Slot.{Slot}
use Rattle.rules.specs.declared.Priority.{Priority}
use Rattle.rules.specs.declared.Direct.{Direct}
use Rattle.rules.specs.declared.Direct.TheVariants.{Shut, NoPermits, Take}
use Rattle.rules.specs.Sizes.{width}
use Rattle.rules.specs.Clock.{Clock, join, empty}
use Rattle.rules.specs.Task.{ticked, joined}
use Rattle.rules.specs.Request.{is_bypassable, is_front}
use Rattle.rules.specs.State.{Batch, Permits, State, strict, stock, reserved, task_at, request_at, asked_at, task_of, with_permits, alter_task, ◌▷◌}
use Rattle.rules.specs.Fresh.{first_batch}

unfoldable pub standing_of : ℕ → Option (List Batch) → List Batch
standing_of n None = first_batch n (empty width)
standing_of n (Some bs) = bs

-- Setting up later adds one batch of the whole stock with the empty clock, if the stock is positive: the batches that then stand.
unfoldable pub standing : Permits → List Batch
standing p = standing_of p.stock p.batches

-- the join of the batches touched, and the batches that are left
pub record Meal : Type 0 where
  pub clock : Clock
  pub rest : List Batch

-- eat batches from the front, joining each one touched
unfoldable pub eat : List Batch → ℕ → Clock → Meal
eat [] n c = record { clock = c; rest = [] }
eat (b ∷ bs) zero c = record { clock = c; rest = b ∷ bs }
eat (b ∷ bs) (suc n) c =
    cond (ltb (suc n) b.size) (record { clock = join c b.clock; rest = record { size = b.size - suc n; clock = b.clock } ∷ bs })
    (eat bs (suc n - b.size) (join c b.clock))

pub record Taken : Type 0 where
  pub permits : Permits
  pub clock : Clock

-- Taking n: set up; join a clock (of the actor, or the request's own) into last-acquire; lower the stock; eat
unfoldable pub taking : ℕ → Clock → Permits → Taken
taking n c p =
    let m = eat (standing p) n (empty width) in
    record {
      permits = record { stock = p.stock - n; batches = Some m.rest; last = join p.last c };
      clock = m.clock;
    }

-- The actor ticks and joins the result.
unfoldable pub take_as : TaskId → ℕ → State → State
take_as t n s =
    let k = taking n (task_at t s).clock s.permits in
    s ▷ with_permits k.permits ▷ alter_task t (λ a. joined k.clock (ticked t a))

-- In a queue grant the request's task joins it without ticking.
unfoldable pub take_queued : Slot → State → State
take_queued x s =
    let k = taking (asked_at x s) (request_at x s).clock s.permits in
    s ▷ with_permits k.permits ▷ alter_task (task_of x s) (joined k.clock)

-- set up; add n and a batch with a clock
unfoldable pub adding : ℕ → Clock → Permits → Permits
adding n c p = record { stock = p.stock + n; batches = Some (standing p ++ record { size = n; clock = c } ∷ []); last = p.last }

-- every queued request is Bypassable
unfoldable pub all_bypassable : List Slot → State → Bool
all_bypassable [] s = true
all_bypassable (x ∷ q) s = is_bypassable (request_at x s).ask.kind && all_bypassable q s

-- Direct rule: closed answers Closed; reserved answers NoPermits; otherwise take if every queued request is Bypassable, or the
-- semaphore is unfair, or the kind is Front, and the stock suffices; else NoPermits.
unfoldable pub direct : Priority → ℕ → State → Direct
direct k n s =
    cond s.closed Shut
    (cond (reserved s) NoPermits
    (cond ((all_bypassable s.queue s || not (strict s) || is_front k) && leb n (stock s)) Take
    NoPermits))
