-- What `times_step` counts on, of a step that is not refused: from the refusals of the times, and from what is decided without clocks.
use Rattle.std.specs.Prelude.{None}
use Rattle.std.proofs.lemmas.Option.{none-some}
use Prim.Native.Nat.{ℕ, ◌≤◌, ◌<◌}
use native.Mathlib.Omega.{arith}
use mathlib.Core.Path.{◌≡◌, refl, sym, ap}
use mathlib.Core.Bool.{Bool, true, false, cond, ◌&&◌, false≢true}
use mathlib.Core.List.{List, [], ◌∷◌}
use borrow.Author.Tests.{lt-ltb, leb-false}
use lib.Dec.{ltb}
use lib.ListN.{length, get_or}
use lib.Seq.{get_or-take}
use Rattle.rules.specs.declared.TaskId.{TaskId}
use Rattle.rules.specs.declared.Grant.{Grant}
use Rattle.rules.specs.declared.Step.{Step}
use Rattle.rules.specs.declared.Direct.{Direct}
use Rattle.rules.specs.declared.Direct.TheVariants.{Shut, NoPermits, Take}
use Rattle.rules.specs.declared.Act.{Act}
use Rattle.rules.specs.declared.Act.TheVariants.{Acquire, AcquireBypassable, AcquireReserving, Upgrade, Poll, Try, TryUpgrade, Release, Drop, Close, Sleep, Finish}
use Rattle.rules.specs.declared.Priority.TheVariants.{Back, Front}
use Rattle.rules.specs.declared.Taker.TheVariants.{BySlot}
use Rattle.rules.specs.Sizes.{width, max_tasks, slot_count, largest}
use Rattle.rules.specs.Clock.{empty}
use Rattle.rules.specs.Polling.{takes_in}
use Rattle.rules.specs.Refusals.{◌if◌, first, full}
use Rattle.rules.specs.Steps.{Answer}
use Prim.Native.Nat.{◌-◌}
use Rattle.splitting.specs.Plain.{Plain, asked_at}
use Rattle.splitting.specs.Who.{effect, effect_of, poll, polling, try_by, direct, gives_back}
use Rattle.splitting.specs.Times.{Known, times_refusal, late, timing_of, back_of, ticks_in}
use Rattle.splitting.specs.Kept.{Kept, clock_at, times_kept}
use Rattle.batches.specs.declared.Batches.{Batches}
use Rattle.batches.specs.View.{stands_in}
use Rattle.splitting.specs.declared.Timing.{Timing}
use Rattle.splitting.specs.declared.Timing.TheVariants.{Makes, Takes, Tries, Gives, Stays}
use Rattle.times.specs.View.{kept_of, refusal_kept, last_tick, is_failed, Able, AbleAtRest}

-- the refusals are those of the rules' times
pub refusal-kept : (a : Step) (p : Plain) (k : Known) (w : Kept) → a.actor.0 < length p.tasks → refusal_kept a.actor k w ≡ times_refusal a k (times_kept p w)
unfolding refusal_kept times_refusal late
refusal-kept a p k w h = rw (get_or-take (length p.tasks) w.clocks a.actor.0 (empty width) h)

neither : (x y : Bool) → first (9 if x ∷ 11 if y ∷ []) ≡ None → (x ≡ false) × (y ≡ false)
neither true y e = absurd (none-some 9 (sym e))
neither false true e = absurd (none-some 11 (sym e))
neither false false e = (refl, refl)

second : (x y : Bool) → x ≡ true → (x && y) ≡ false → y ≡ false
second true y e h = h
second false y e h = absurd (false≢true e)

module _ (t : TaskId) (k : Known) (w : Kept) (accepted : refusal_kept t k w ≡ None) where
  pub has_room : 0 < k.back → full w.batches ≡ false
  unfolding refusal_kept
  has_room h = second (ltb 0 k.back) (full w.batches) (lt-ltb 0 k.back h) (neither (ltb 0 k.back && full w.batches) (k.ticks && last_tick t w) accepted).0

  pub has_tick : k.ticks ≡ true → get_or (clock_at t w) t.0 0 < largest
  unfolding refusal_kept
  has_tick h = leb-false largest (get_or (clock_at t w) t.0 0) (second k.ticks (last_tick t w) h (neither (ltb 0 k.back && full w.batches) (k.ticks && last_tick t w) accepted).1)

-- of a step's grants: the actor's own are at most one, it ticks where there is one, and none come with a failed try
abbrev pub Counted : Timing → Answer → ℕ → ℕ → Bool → Type 0
Counted Makes o n back f = Unit {0}
Counted Takes o n back f = (n ≤ 1) × (0 < n → f ≡ true)
Counted Tries o n back f = (n ≤ 1) × (f ≡ true) × (is_failed o ≡ true → n ≡ 0)
Counted Gives o n back f = 0 < back → f ≡ true
Counted Stays o n back f = Unit {0}

counted-poll : (f : Bool) (g : Grant) → (length (cond f (g ∷ []) []) ≤ 1) × (0 < length (cond f (g ∷ []) []) → f ≡ true)
counted-poll true g = (omega arith, λ h. refl)
counted-poll false g = (omega arith, λ h. absurd (omega arith))

counted_try : (d : Direct) (t : TaskId) (n : ℕ) (p : Plain) → (length (try_by d t n p).grants ≤ 1) × (true ≡ true) × (is_failed (try_by d t n p).answer ≡ true → length (try_by d t n p).grants ≡ 0)
unfolding try_by
counted_try Shut t n p = (omega arith, refl, λ e. refl)
counted_try NoPermits t n p = (omega arith, refl, λ e. refl)
counted_try Take t n p = (omega arith, refl, λ e. absurd (false≢true e))

counted_of : (t : TaskId) (a : Act) (p : Plain) → Counted (timing_of a) (effect_of t a p).answer (length (effect_of t a p).grants) (back_of a p) (ticks_in a p)
unfolding effect_of poll
counted_of t (Acquire n) p = tt
counted_of t (AcquireBypassable n) p = tt
counted_of t (AcquireReserving least n) p = tt
counted_of t (Upgrade held wanted) p = tt
counted_of t (Poll x) p = counted-poll (takes_in (polling x p)) (record { taker = BySlot x; count = asked_at x p; task = t })
counted_of t (Try n) p = counted_try (direct Back n p) t n p
counted_of t (TryUpgrade held wanted) p = counted_try (direct Front (wanted - held) p) t (wanted - held) p
counted_of t (Release n) p = λ h. lt-ltb 0 n h
counted_of t (Drop x) p = λ h. lt-ltb 0 (gives_back x p) h
counted_of t Close p = tt
counted_of t Sleep p = tt
counted_of t Finish p = tt

pub counted : (a : Step) (p : Plain) → Counted (timing_of a.act) (effect a p).answer (length (effect a p).grants) (back_of a.act p) (ticks_in a.act p)
counted a p = counted_of a.actor a.act p

-- so a step that is not refused may be taken
pub able_accepted : (d : Timing) (t : TaskId) (o : Answer) (n : ℕ) (k : Known) (b : Batches) (sizes rows last makers clocks : List ℕ) → t.0 < max_tasks → n ≤ slot_count
    → refusal_kept t k (kept_of b sizes rows last makers clocks) ≡ None → Counted d o n k.back k.ticks
    → Able d t o n k.back clocks (stands_in b sizes rows)
able_accepted Makes t o n k b sizes rows last makers clocks l few r c = tt
able_accepted Takes t o n k b sizes rows last makers clocks l few r c = (c.0, λ h. record { task = l; entry = has_tick t k (kept_of b sizes rows last makers clocks) r (c.1 h) })
able_accepted Tries t o n k b sizes rows last makers clocks l few r c = (c.0, record { task = l; entry = has_tick t k (kept_of b sizes rows last makers clocks) r c.1 }, c.2)
able_accepted Gives t o n k b sizes rows last makers clocks l few r c =
    (few, λ h. record { task = l; entry = has_tick t k (kept_of b sizes rows last makers clocks) r (c h) }, has_room t k (kept_of b sizes rows last makers clocks) r)
able_accepted Stays t o n k b sizes rows last makers clocks l few r c = tt

-- Of a step without grants: a try among them failed, and its actor ticks.
abbrev pub Ungranted : Timing → Answer → Bool → Type 0
Ungranted Makes o f = Unit {0}
Ungranted Takes o f = Unit {0}
Ungranted Tries o f = (f ≡ true) × (is_failed o ≡ true)
Ungranted Gives o f = Unit {0}
Ungranted Stays o f = Unit {0}

failed_try : (d : Direct) (t : TaskId) (n : ℕ) (p : Plain) → (try_by d t n p).grants ≡ [] → is_failed (try_by d t n p).answer ≡ true
unfolding try_by
failed_try Shut t n p e = refl
failed_try NoPermits t n p e = refl
failed_try Take t n p e = absurd (let z : ◌≡◌ {A = ℕ} 1 0 = ap length e in omega arith)

ungranted_of : (t : TaskId) (a : Act) (p : Plain) → (effect_of t a p).grants ≡ [] → Ungranted (timing_of a) (effect_of t a p).answer (ticks_in a p)
unfolding effect_of
ungranted_of t (Acquire n) p e = tt
ungranted_of t (AcquireBypassable n) p e = tt
ungranted_of t (AcquireReserving least n) p e = tt
ungranted_of t (Upgrade held wanted) p e = tt
ungranted_of t (Poll x) p e = tt
ungranted_of t (Try n) p e = (refl, failed_try (direct Back n p) t n p e)
ungranted_of t (TryUpgrade held wanted) p e = (refl, failed_try (direct Front (wanted - held) p) t (wanted - held) p e)
ungranted_of t (Release n) p e = tt
ungranted_of t (Drop x) p e = tt
ungranted_of t Close p e = tt
ungranted_of t Sleep p e = tt
ungranted_of t Finish p e = tt

pub ungranted : (a : Step) (p : Plain) → (effect a p).grants ≡ [] → Ungranted (timing_of a.act) (effect a p).answer (ticks_in a.act p)
ungranted a p e = ungranted_of a.actor a.act p e

pub able_at_rest : (d : Timing) (t : TaskId) (o : Answer) (k : Known) (b : Batches) (sizes rows last makers clocks : List ℕ) → t.0 < max_tasks
    → refusal_kept t k (kept_of b sizes rows last makers clocks) ≡ None → Ungranted d o k.ticks → AbleAtRest d t o clocks
able_at_rest Makes t o k b sizes rows last makers clocks l r c = tt
able_at_rest Takes t o k b sizes rows last makers clocks l r c = tt
able_at_rest Tries t o k b sizes rows last makers clocks l r c = (record { task = l; entry = has_tick t k (kept_of b sizes rows last makers clocks) r c.0 }, c.1)
able_at_rest Gives t o k b sizes rows last makers clocks l r c = tt
able_at_rest Stays t o k b sizes rows last makers clocks l r c = tt
