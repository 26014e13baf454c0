-- Counts fit: no step makes a count or a clock entry that passes the largest, or a clock of another width.
use Rattle.std.specs.Prelude.{Option, None, Some, option_map, unwrap_or}
use Prim.Native.Nat.{ℕ, zero, suc, ◌+◌, ◌-◌, ◌≤◌, ◌<◌}
use native.Mathlib.Nat.{max-le}
use native.Mathlib.Omega.{arith}
use mathlib.Core.Path.{◌≡◌, sym, ap, subst, ◌∙◌}
use mathlib.Core.List.{List, [], ◌∷◌, cons≢nil, head-eq_of_cons-eq, tail-eq_of_cons-eq}
use lib.Dec.{ltb}
use lib.ListN.{length, get_or, length-set}
use Rattle.rules.specs.declared.TaskId.{TaskId}
use Rattle.rules.specs.declared.Slot.{Slot}
use Rattle.rules.specs.Sizes.{width, largest}
use Rattle.rules.specs.Clock.{Clock, join, tick, empty}
use Rattle.rules.specs.Task.{Task, no_task}
use Rattle.rules.specs.Request.{Request, no_request}
use Rattle.rules.specs.State.{Batch, Permits, State, task_at, request_at, asked_at, with_permits, alter_task, alter_request}
use Rattle.rules.specs.Fresh.{first_batch}
use Rattle.rules.specs.Taking.{Meal, standing_of, standing, eat, Taken, taking, adding}
use Rattle.rules.specs.Broken.{set_up_batches}
use Rattle.rules.specs.Promises.{Each, ClockFits, BatchFits, RequestFits, SlotFits}
use Rattle.rules.proofs.Bools.{by_cond}
use Rattle.rules.proofs.Clocks.{length-join, length-empty}
use Rattle.rules.proofs.Eaches.{each_append, each_set, each_at, each_replicate}
use Rattle.rules.proofs.Slots.{slot_at}
use Rattle.rules.proofs.Tasks.{clocks_of, Roused, roused-number, roused_keeps}

-- Clocks.

join-entries : (c d : Clock) → Each (λ n. n ≤ largest) c → Each (λ n. n ≤ largest) d → Each (λ n. n ≤ largest) (join c d)
unfolding join
join-entries [] d h k = tt
join-entries (x ∷ c) [] h k = h
join-entries (x ∷ c) (y ∷ d) h k = (max-le h.0 k.0, join-entries c d h.1 k.1)

pub join-fits : (c d : Clock) → ClockFits c → ClockFits d → ClockFits (join c d)
join-fits c d h k = record { wide = length-join c d ∙ h.wide; entries = join-entries c d h.entries k.entries }

pub tick-fits : (i : ℕ) (c : Clock) → get_or c i 0 < largest → ClockFits c → ClockFits (tick i c)
unfolding tick
tick-fits i c l h =
    record { wide = length-set c i _ ∙ h.wide; entries = each_set (λ n. n ≤ largest) c i _ h.entries (omega arith) }

pub empty-fits : ClockFits (empty width)
unfolding empty
empty-fits = record { wide = length-empty width; entries = each_replicate (λ n. n ≤ largest) width 0 (omega arith) }

-- Permits.

pub record PermitsFit (p : Permits) : Type 0 where
  pub stock : p.stock ≤ largest
  pub batches : Each BatchFits (set_up_batches p.batches)
  pub last : ClockFits p.last

pub first_fits : (n : ℕ) (c : Clock) → n ≤ largest → ClockFits c → Each BatchFits (first_batch n c)
unfolding first_batch
first_fits zero c l h = tt
first_fits (suc n) c l h = (record { size = l; clock = h }, tt)

standing-fits : (n : ℕ) (o : Option (List Batch)) → n ≤ largest → Each BatchFits (set_up_batches o) → Each BatchFits (standing_of n o)
unfolding standing_of
standing-fits n None l h = first_fits n (empty width) l empty-fits
standing-fits n (Some bs) l h = h

record MealFits (m : Meal) : Type 0 where
  clock : ClockFits m.clock
  rest : Each BatchFits m.rest

eat-fits : (bs : List Batch) (n : ℕ) (c : Clock) → Each BatchFits bs → ClockFits c → MealFits (eat bs n c)
unfolding eat
eat-fits [] n c h k = record { clock = k; rest = tt }
eat-fits (b ∷ bs) zero c h k = record { clock = k; rest = h }
eat-fits (b ∷ bs) (suc n) c h k =
    let j = join-fits c b.clock k h.0.clock in
    by_cond MealFits (ltb (suc n) b.size)
    (λ l. record { clock = j; rest = (record { size = omega (arith, h.0.size); clock = h.0.clock }, h.1) })
    (λ l. eat-fits bs (suc n - b.size) (join c b.clock) h.1 j)

pub record TakenFits (k : Taken) : Type 0 where
  pub permits : PermitsFit k.permits
  pub clock : ClockFits k.clock

pub taking-fits : (n : ℕ) (c : Clock) (p : Permits) → ClockFits c → PermitsFit p → TakenFits (taking n c p)
unfolding taking standing
taking-fits n c p k h =
    let b = standing-fits p.stock p.batches h.stock h.batches in
    let m = eat-fits (standing_of p.stock p.batches) n (empty width) b empty-fits in
    record { permits = record { stock = omega (arith, h.stock); batches = m.rest; last = join-fits p.last c h.last k }; clock = m.clock }

pub adding-fits : (n : ℕ) (c : Clock) (p : Permits) → p.stock + n ≤ largest → ClockFits c → PermitsFit p → PermitsFit (adding n c p)
unfolding adding standing
adding-fits n c p l k h =
    record {
      stock = l;
      batches =
          each_append BatchFits (standing_of p.stock p.batches) _ (standing-fits p.stock p.batches h.stock h.batches)
          (record { size = omega arith; clock = k }, tt);
      last = h.last;
    }

-- States of n tasks.

abbrev TaskFits : Task → Type 0
TaskFits a = ClockFits a.clock

pub record Counted (n : ℕ) (s : State) : Type 0 where
  pub number : length s.tasks ≡ n
  pub permits : PermitsFit s.permits
  pub tasks : Each TaskFits s.tasks
  pub requests : Each (SlotFits n) s.slots

-- the clocks of the tasks are all that counts of them
by_clocks : (ts us : List Task) → clocks_of ts ≡ clocks_of us → Each TaskFits us → Each TaskFits ts
by_clocks [] us e h = tt
by_clocks (t ∷ ts) [] e h = absurd (cons≢nil e)
by_clocks (t ∷ ts) (u ∷ us) e h =
    (subst ClockFits (sym (head-eq_of_cons-eq e)) h.0, by_clocks ts us (tail-eq_of_cons-eq e) h.1)

module _ (n : ℕ) where
  pub counted-roused : {s b : State} → Roused s b → Counted n s → Counted n b
  counted-roused {s} r h =
      roused_keeps (Counted n) r (
      record {
        number = roused-number r ∙ h.number;
        permits = h.permits;
        tasks = by_clocks r.tasks s.tasks r.clocks h.tasks;
        requests = h.requests;
      }
      )

  pub task-fits : (t : TaskId) (s : State) → Counted n s → ClockFits (task_at t s).clock
  task-fits t s h = each_at TaskFits s.tasks t.0 no_task h.tasks empty-fits

  pub slot-fits : (x : Slot) (s : State) → Counted n s → SlotFits n (slot_at x s)
  slot-fits x s h = each_at (SlotFits n) s.slots x.0 None h.requests tt

  clock-fits : (o : Option Request) → SlotFits n o → ClockFits (unwrap_or o no_request).clock
  clock-fits None h = empty-fits
  clock-fits (Some r) h = h.clock

  pub request-fits : (x : Slot) (s : State) → Counted n s → ClockFits (request_at x s).clock
  request-fits x s h = clock-fits (slot_at x s) (slot-fits x s h)

  ask-fits : (o : Option Request) → SlotFits n o → (unwrap_or o no_request).ask.asked ≤ largest
  ask-fits None h = omega arith
  ask-fits (Some r) h = h.asked

  pub asked-fits : (x : Slot) (s : State) → Counted n s → asked_at x s ≤ largest
  asked-fits x s h = ask-fits (slot_at x s) (slot-fits x s h)

  -- a task altered
  pub counted-task : (t : TaskId) (f : Task → Task) (s : State) → ClockFits (f (task_at t s)).clock → Counted n s → Counted n (alter_task t f s)
  counted-task t f s k h =
      record {
        number = length-set s.tasks t.0 _ ∙ h.number;
        permits = h.permits;
        tasks = each_set TaskFits s.tasks t.0 _ h.tasks k;
        requests = h.requests;
      }

  -- a request altered, or a slot filled
  pub counted-slots : (b s : State) → b.tasks ≡ s.tasks → b.permits ≡ s.permits → Each (SlotFits n) b.slots → Counted n s → Counted n b
  counted-slots b s e f k h =
      record {
        number = ap (λ (ts : List Task). length ts) e ∙ h.number;
        permits = subst PermitsFit (sym f) h.permits;
        tasks = subst (Each TaskFits) (sym e) h.tasks;
        requests = k;
      }

  altered-fits : (f : Request → Request) → ((r : Request) → RequestFits n r → RequestFits n (f r))
      → (o : Option Request) → SlotFits n o → SlotFits n (option_map f o)
  altered-fits f k None h = tt
  altered-fits f k (Some r) h = k r h

  pub slots-altered : (x : Slot) (f : Request → Request) (s : State) → ((r : Request) → RequestFits n r → RequestFits n (f r)) → Counted n s
      → Each (SlotFits n) (alter_request x f s).slots
  slots-altered x f s k h = each_set (SlotFits n) s.slots x.0 _ h.requests (altered-fits f k (slot_at x s) (slot-fits x s h))

  pub counted-permits : (p : Permits) (s : State) → PermitsFit p → Counted n s → Counted n (with_permits p s)
  counted-permits p s k h = record { number = h.number; permits = k; tasks = h.tasks; requests = h.requests }
