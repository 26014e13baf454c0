-- What holds where nothing is refused: the facts that an accepted step and an accepted start have.
use Rattle.std.specs.Prelude.{Option, None, Some}
use Prim.Native.Nat.{ℕ, ◌+◌, ◌*◌, ◌≤◌, ◌<◌}
use native.Mathlib.Omega.{arith}
use mathlib.Core.Path.{◌≡◌, refl, subst}
use mathlib.Core.Bool.{Bool, true, false, cond}
use borrow.Author.Tests.{ltb-false, leb-false, eqb-true, not-false, lt-ltb}
use lib.Dec.{leb, ltb, eqb}
use lib.ListN.{length, get_or}
use Rattle.rules.specs.declared.TaskId.{TaskId}
use Rattle.rules.specs.declared.Slot.{Slot}
use Rattle.rules.specs.declared.Act.{Act}
use Rattle.rules.specs.declared.Act.TheVariants.{Acquire, AcquireBypassable, AcquireReserving, Upgrade, Poll, Try, TryUpgrade, Release, Drop, Close, Sleep, Finish}
use Rattle.rules.specs.declared.Step.{Step}
use Rattle.rules.specs.Sizes.{max_tasks, slot_count, largest}
use Rattle.rules.specs.Task.{is_runnable}
use Rattle.rules.specs.State.{State, strict, stock, task_at, in_use, request_at}
use Rattle.rules.specs.Fresh.{Start, not_below, refuses12}
use Rattle.rules.specs.Polling.{polling, takes_in}
use Rattle.rules.specs.Steps.{lowest_free}
use Rattle.rules.specs.Refusals.{polls_nothing, bad_upgrade, full, last_tick, gives_back, first, release_grounds, grounds, refusal}
use Rattle.rules.proofs.Bools.{neither, and_other, positive}

-- the first ground not given, and those after it
ungiven : (b : Bool) (n : ℕ) (o : Option ℕ) → cond b (Some n) o ≡ None → (b ≡ false) × (o ≡ None)
ungiven true n o e = let z : ◌≡◌ {A = ℕ} 0 1 = cc in absurd (omega arith)
ungiven false n o e = (refl, e)

-- neither 10 nor 9 nor 11: a release of n
pub record Releasable (t : TaskId) (n : ℕ) (s : State) : Type 0 where
  pub fits : 0 < n → stock s + n ≤ largest
  pub room : 0 < n → full s.permits.batches ≡ false
  pub tick : 0 < n → get_or (task_at t s).clock t.0 0 < largest

releasable : (t : TaskId) (n : ℕ) (s : State) → first (release_grounds t n s) ≡ None → Releasable t n s
releasable t n s e =
    let g10 = ungiven _ _ _ e in
    let g9 = ungiven _ _ _ g10.1 in
    let g11 = ungiven _ _ _ g9.1 in
    record {
      fits = λ l. ltb-false largest (stock s + n) (and_other (ltb 0 n) _ g10.0 (lt-ltb 0 n l));
      room = λ l. and_other (ltb 0 n) _ g9.0 (lt-ltb 0 n l);
      tick = λ l. leb-false largest _ (and_other (ltb 0 n) _ g11.0 (lt-ltb 0 n l));
    }

-- neither 3 nor 4 nor 5 nor 11: a poll
pub record Pollable (t : TaskId) (x : Slot) (s : State) : Type 0 where
  pub used : in_use x s ≡ true
  pub completed : (request_at x s).completed ≡ false
  pub asks : polls_nothing x s ≡ false
  pub tick : takes_in (polling x s) ≡ true → get_or (task_at t s).clock t.0 0 < largest

-- neither 7 nor 11: permits that are asked for at once
pub record Upgradable (held wanted : ℕ) : Type 0 where
  pub had : 0 < held
  pub more : held < wanted

upgradable : (held wanted : ℕ) → bad_upgrade held wanted ≡ false → Upgradable held wanted
upgradable held wanted e =
    let k = neither (eqb held 0) (leb wanted held) e in
    record { had = positive held k.0; more = leb-false wanted held k.1 }

abbrev pub HasSlot : State → Type 0
HasSlot s = lowest_free s.slots < slot_count

abbrev pub MayTick : TaskId → State → Type 0
MayTick t s = get_or (task_at t s).clock t.0 0 < largest

-- what each act has when it is not refused
abbrev pub Allowed : TaskId → Act → State → Type 0
Allowed t (Acquire n) s = HasSlot s
Allowed t (AcquireBypassable n) s = HasSlot s
Allowed t (AcquireReserving least n) s = (strict s ≡ false) × (0 < n) × (least ≤ n) × HasSlot s
Allowed t (Upgrade held wanted) s = Upgradable held wanted × HasSlot s
Allowed t (Poll x) s = Pollable t x s
Allowed t (Try n) s = (0 < n) × MayTick t s
Allowed t (TryUpgrade held wanted) s = Upgradable held wanted × MayTick t s
Allowed t (Release n) s = Releasable t n s
Allowed t (Drop x) s = (in_use x s ≡ true) × Releasable t (gives_back x s) s
Allowed t Close s = Unit {0}
Allowed t Sleep s = Unit {0}
Allowed t Finish s = Unit {0}

has_slot : (s : State) → leb slot_count (lowest_free s.slots) ≡ false → HasSlot s
has_slot s e = leb-false slot_count (lowest_free s.slots) e

may_tick : (t : TaskId) (s : State) → last_tick t s ≡ false → MayTick t s
may_tick t s e = leb-false largest _ e

allowed_act : (t : TaskId) (a : Act) (s : State) → first (grounds t a s) ≡ None → Allowed t a s
unfolding grounds
allowed_act t (Acquire n) s e = has_slot s (ungiven _ _ _ e).0
allowed_act t (AcquireBypassable n) s e = has_slot s (ungiven _ _ _ e).0
allowed_act t (AcquireReserving least n) s e =
    let g6 = ungiven _ _ _ e in
    let g7 = ungiven _ _ _ g6.1 in
    let k = neither (eqb n 0) (ltb n least) g7.0 in
    (g6.0, positive n k.0, ltb-false n least k.1, has_slot s (ungiven _ _ _ g7.1).0)
allowed_act t (Upgrade held wanted) s e =
    let g7 = ungiven _ _ _ e in
    (upgradable held wanted g7.0, has_slot s (ungiven _ _ _ g7.1).0)
allowed_act t (Poll x) s e =
    let g3 = ungiven _ _ _ e in
    let g4 = ungiven _ _ _ g3.1 in
    let g5 = ungiven _ _ _ g4.1 in
    let g11 = ungiven _ _ _ g5.1 in
    record {
      used = not-false (in_use x s) g3.0;
      completed = g4.0;
      asks = g5.0;
      tick = λ k. may_tick t s (and_other (takes_in (polling x s)) _ g11.0 k);
    }
allowed_act t (Try n) s e =
    let g5 = ungiven _ _ _ e in
    (positive n g5.0, may_tick t s (ungiven _ _ _ g5.1).0)
allowed_act t (TryUpgrade held wanted) s e =
    let g7 = ungiven _ _ _ e in
    (upgradable held wanted g7.0, may_tick t s (ungiven _ _ _ g7.1).0)
allowed_act t (Release n) s e = releasable t n s e
allowed_act t (Drop x) s e =
    let g3 = ungiven _ _ _ e in
    (not-false (in_use x s) g3.0, releasable t (gives_back x s) s g3.1)
allowed_act t Close s e = tt
allowed_act t Sleep s e = tt
allowed_act t Finish s e = tt

-- an accepted step: its actor is a task, Runnable, and nothing forbids the act
pub record Accepted (a : Step) (s : State) : Type 0 where
  pub actor : a.actor.0 < length s.tasks
  pub runnable : is_runnable (task_at a.actor s).state ≡ true
  pub allowed : Allowed a.actor a.act s

pub accepted : (a : Step) (s : State) → refusal a s ≡ None → Accepted a s
unfolding refusal
accepted a s e =
    let g1 = ungiven _ _ _ e in
    let g2 = ungiven _ _ _ g1.1 in
    record {
      actor = leb-false (length s.tasks) a.actor.0 g1.0;
      runnable = not-false (is_runnable (task_at a.actor s).state) g2.0;
      allowed = allowed_act a.actor a.act s g2.1;
    }

-- A fresh state that 12 does not refuse.

pub record Startable (a : Start) : Type 0 where
  pub some_tasks : 0 < a.tasks
  pub few-tasks : a.tasks ≤ max_tasks
  pub clocks : length a.clocks ≡ a.tasks * a.tasks
  pub maker : (t : TaskId) → a.maker ≡ Some t → t.0 < a.tasks

pub startable : (a : Start) → refuses12 a ≡ false → Startable a
unfolding refuses12
startable a e =
    let c4 = neither _ _ e in
    let c3 = neither _ _ c4.0 in
    let c2 = neither (eqb a.tasks 0) (ltb max_tasks a.tasks) c3.0 in
    record {
      some_tasks = positive a.tasks c2.0;
      few-tasks = ltb-false max_tasks a.tasks c2.1;
      clocks = eqb-true (length a.clocks) (a.tasks * a.tasks) (not-false _ c3.1);
      maker = λ t f. leb-false a.tasks t.0 (subst (λ (o : Option TaskId). not_below a.tasks o ≡ false) f c4.1);
    }
