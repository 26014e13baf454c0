-- Twelve acts do eight things. What holds of each of the eight holds of every act that is allowed, so that a theorem about acts names what is
-- done and no act.
use Prim.Native.Nat.{ℕ, ◌-◌, ◌≤◌, ◌<◌}
use native.Mathlib.Omega.{arith}
use mathlib.Core.Path.{◌≡◌, refl}
use mathlib.Core.Bool.{Bool, true, false, false≢true}
use Rattle.rules.specs.declared.TaskId.{TaskId}
use Rattle.rules.specs.declared.Slot.{Slot}
use Rattle.rules.specs.declared.Ask.{Ask}
use Rattle.rules.specs.declared.Priority.{Priority}
use Rattle.rules.specs.declared.Priority.TheVariants.{Back, Bypassable, Front}
use Rattle.rules.specs.declared.Act.{Act}
use Rattle.rules.specs.declared.Act.TheVariants.{Acquire, AcquireBypassable, AcquireReserving, Upgrade, Poll, Try, TryUpgrade, Release, Drop, Close, Sleep, Finish}
use Rattle.rules.specs.Sizes.{largest}
use Rattle.rules.specs.Task.{slept, finished}
use Rattle.rules.specs.Request.{plain_ask, reserving_ask}
use Rattle.rules.specs.State.{State, strict, in_use, alter_task}
use Rattle.rules.specs.Taking.{direct}
use Rattle.rules.specs.Steps.{Sort, sort_of, Outcome, quiet, doing, make, upgrade_ask, try_by, poll, release, drop_request, closing, effect_of}
use Rattle.rules.specs.Steps.Sort.{a_release, a_drop, another}
use Rattle.rules.specs.Steps.Answer.{done}
use Rattle.rules.specs.Refusals.{gives_back}
use Rattle.rules.specs.Promises.{ActFits}
use Rattle.rules.proofs.Accepting.{Releasable, Pollable, HasSlot, MayTick, Allowed}

-- a reserving ask that neither 6 nor 7 refuses
abbrev pub MayMake : Ask → State → Type 0
MayMake a s = (strict s ≡ false) × (0 < a.asked) × (a.least ≤ a.asked)

-- an ask that an act makes, which has what is said of all asks
pub record Makes (F : Ask → Type 0) (a : Ask) (s : State) : Type 0 where
  pub slot : HasSlot s
  pub reserving : a.reserving ≡ true → MayMake a s
  pub such : F a

-- the eight, each with what is known of it where it is allowed
pub record EachDeed (F : Ask → Type 0) (t : TaskId) (s : State) (X : Sort → Outcome → Type 0) : Type 0 where
  pub makes : (a : Ask) → Makes F a s → X another (make t a s)
  pub polls : (x : Slot) → Pollable t x s → X another (poll t x s)
  pub tries : (k : Priority) (n : ℕ) → 0 < n → MayTick t s → X another (try_by (direct k n s) t n s)
  pub releases : (n : ℕ) → Releasable t n s → X (a_release n) (doing (release t n s))
  pub drops : (x : Slot) → in_use x s ≡ true → Releasable t (gives_back x s) s → X (a_drop x) (doing (drop_request t x s))
  pub closes : X another (quiet done (closing s))
  pub sleeps : X another (quiet done (alter_task t slept s))
  pub finishes : X another (quiet done (alter_task t finished s))

-- What an act asks for, where it makes a request.

abbrev pub Asks : (Ask → Type 0) → Act → State → Type 0
Asks F (Acquire n) s = F (plain_ask Back n)
Asks F (AcquireBypassable n) s = F (plain_ask Bypassable n)
Asks F (AcquireReserving least n) s = F (reserving_ask least n)
Asks F (Upgrade held wanted) s = F (upgrade_ask (strict s) (wanted - held))
Asks F (Poll x) s = Unit {0}
Asks F (Try n) s = Unit {0}
Asks F (TryUpgrade held wanted) s = Unit {0}
Asks F (Release n) s = Unit {0}
Asks F (Drop x) s = Unit {0}
Asks F Close s = Unit {0}
Asks F Sleep s = Unit {0}
Asks F Finish s = Unit {0}

abbrev pub AskFits : Ask → Type 0
AskFits a = (a.asked ≤ largest) × (a.least ≤ largest)

upgrade_fits : (b : Bool) (m : ℕ) → m ≤ largest → AskFits (upgrade_ask b m)
upgrade_fits true m l = (l, l)
upgrade_fits false m l = (l, omega arith)

pub asks-fit : (a : Act) (s : State) → ActFits a → Asks AskFits a s
asks-fit (Acquire n) s f = (f, f)
asks-fit (AcquireBypassable n) s f = (f, f)
asks-fit (AcquireReserving least n) s f = (f.1, f.0)
asks-fit (Upgrade held wanted) s f = upgrade_fits (strict s) (wanted - held) (omega (arith, f.1))
asks-fit (Poll x) s f = tt
asks-fit (Try n) s f = tt
asks-fit (TryUpgrade held wanted) s f = tt
asks-fit (Release n) s f = tt
asks-fit (Drop x) s f = tt
asks-fit Close s f = tt
asks-fit Sleep s f = tt
asks-fit Finish s f = tt

upgrade_made : (b : Bool) (n : ℕ) (s : State) → 0 < n → strict s ≡ b → (upgrade_ask b n).reserving ≡ true → MayMake (upgrade_ask b n) s
upgrade_made true n s l e r = absurd (false≢true r)
upgrade_made false n s l e r = (e, l, omega arith)

-- with what is said of the ask
pub by_asking : {F : Ask → Type 0} {t : TaskId} {s : State} {X : Sort → Outcome → Type 0}
    → EachDeed F t s X → (a : Act) → Asks F a s → Allowed t a s → X (sort_of a) (effect_of t a s)
unfolding effect_of
by_asking d (Acquire n) f k = d.makes _ (record { slot = k; reserving = λ r. absurd (false≢true r); such = f })
by_asking d (AcquireBypassable n) f k = d.makes _ (record { slot = k; reserving = λ r. absurd (false≢true r); such = f })
by_asking d (AcquireReserving least n) f k = d.makes _ (record { slot = k.3; reserving = λ r. (k.0, k.1, k.2); such = f })
by_asking {s = s} d (Upgrade held wanted) f k =
    let more = k.0.more in
    d.makes _ (record { slot = k.1; reserving = upgrade_made (strict s) (wanted - held) s (omega arith) refl; such = f })
by_asking d (Poll x) f k = d.polls x k
by_asking d (Try n) f k = d.tries Back n k.0 k.1
by_asking d (TryUpgrade held wanted) f k = let more = k.0.more in d.tries Front (wanted - held) (omega arith) k.1
by_asking d (Release n) f k = d.releases n k
by_asking d (Drop x) f k = d.drops x k.0 k.1
by_asking d Close f k = d.closes
by_asking d Sleep f k = d.sleeps
by_asking d Finish f k = d.finishes

-- of any ask
abbrev pub AnyAsk : Ask → Type 0
AnyAsk a = Unit {0}

asks_any : (a : Act) (s : State) → Asks AnyAsk a s
asks_any (Acquire n) s = tt
asks_any (AcquireBypassable n) s = tt
asks_any (AcquireReserving least n) s = tt
asks_any (Upgrade held wanted) s = tt
asks_any (Poll x) s = tt
asks_any (Try n) s = tt
asks_any (TryUpgrade held wanted) s = tt
asks_any (Release n) s = tt
asks_any (Drop x) s = tt
asks_any Close s = tt
asks_any Sleep s = tt
asks_any Finish s = tt

pub by_act : {t : TaskId} {s : State} {X : Sort → Outcome → Type 0}
    → EachDeed AnyAsk t s X → (a : Act) → Allowed t a s → X (sort_of a) (effect_of t a s)
by_act {s = s} d a k = by_asking d a (asks_any a s) k
