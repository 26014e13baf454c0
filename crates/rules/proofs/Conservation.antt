-- Conservation: what a step takes from the stock it grants, and what it adds was released or given up.
use Rattle.std.specs.Prelude.{Option, None, Some}
use Prim.Native.Nat.{ℕ, zero, suc, ◌+◌, ◌-◌, ◌≤◌, ◌<◌}
use native.Mathlib.Omega.{arith}
use mathlib.Core.Path.{◌≡◌, refl, sym, ap, ◌∙◌}
use mathlib.Core.Bool.{false, Bool, cond, not, ◌&&◌}
use mathlib.Core.List.{List, [], ◌∷◌, ◌++◌}
use Rattle.rules.specs.declared.TaskId.{TaskId}
use Rattle.rules.specs.declared.Slot.{Slot}
use Rattle.rules.specs.declared.Grant.{Grant}
use Rattle.rules.specs.declared.Direct.{Direct}
use Rattle.rules.specs.declared.Direct.TheVariants.{Shut, NoPermits, Take}
use Rattle.rules.specs.declared.Polling.{Polling}
use Rattle.rules.specs.declared.Polling.TheVariants.{Holds, IsClosed, Stays, QueuesBack, QueuesFront, TakesReserved, Takes, Reserves}
use Rattle.rules.specs.declared.Dropping.{Dropping}
use Rattle.rules.specs.declared.Dropping.TheVariants.{Leaving, Unreserving, Returning, Nothing}
use Rattle.rules.specs.declared.Act.{Act}
use Rattle.rules.specs.declared.Step.{Step}
use Rattle.rules.specs.Sizes.{largest}
use Rattle.rules.specs.State.{Permits, State, stock, request_at, asked_at, with_reservation, alter_request}
use Rattle.rules.specs.Taking.{take_as, adding, direct}
use Rattle.rules.specs.Scan.{leave, queue_grant, walk, scan}
use Rattle.rules.specs.Polling.{polling, poll_work, poll_grants, poll_mark, polled}
use Rattle.rules.specs.Steps.{Sort, by_sort, make, try_by, poll, add_released, release, dropping, drop_work, drop_request, effect_of}
use Rattle.rules.specs.Refusals.{refusal, returned, gives_back}
use Rattle.rules.specs.Runs.{step, unless, run}
use Rattle.rules.specs.Promises.{counts, granted_in, releases, gives_up, if_accepted, over_run, released_in, given_up_in}
use Rattle.rules.specs.Sound.{Sound}
use Rattle.rules.proofs.Accepting.{Allowed, accepted}
use Rattle.rules.proofs.Acting.{by_act}
use Rattle.rules.proofs.Tasks.{reblocks}
use Rattle.rules.proofs.KeepsQueue.{has_reservation_lem}
use Rattle.rules.proofs.KeepsTaking.{take-stock}
use Rattle.rules.proofs.KeepsScan.{by_walk, granted_stock}
use Rattle.rules.proofs.Decisions.{unfulfilled, PollSays, poll-says, by_release, by_drop-queued, DropSays, drop-says}
use Rattle.rules.proofs.Unchanged.{Untouched, untouched_roused, untouched_wake, untouched_closing}
use Rattle.rules.proofs.KeepsSteps.{take-fits, by_refusal, sound-step}

pub counts_append : (gs hs : List Grant) → counts (gs ++ hs) ≡ counts gs + counts hs
unfolding counts
counts_append [] hs = omega arith
counts_append (g ∷ gs) hs = omega (arith, counts_append gs hs)

pub counts_one : (g : Grant) → counts (g ∷ []) ≡ g.count
unfolding counts
counts_one g = omega arith

stock_of : {s b : State} → Untouched s b → stock b ≡ stock s
stock_of u = ap (λ (p : Permits). p.stock) u.permits

-- A scan grants what it takes.
pub walk-grants : (q : List Slot) (s : State) (gs : List Grant) → stock (walk q s gs).state + counts (walk q s gs).grants ≡ stock s + counts gs
walk-grants q s gs =
    by_walk {P = λ l b hs. stock b + counts hs ≡ stock s + counts gs} {R = λ g. stock g.state + counts g.grants ≡ stock s + counts gs} (
    record {
      leaves = λ x l b hs k e. e;
      fits = λ x l b hs k e. omega (arith, k.1, granted_stock x b, counts_append hs (queue_grant x b ∷ []), counts_one (queue_grant x b));
      passed = λ x l b hs k e. e;
      ends = λ x l b hs k e. e;
      over = λ b hs e. e;
    }
    )
    q s gs refl

pub scan-grants : (s : State) → stock (scan s).state + counts (scan s).grants ≡ stock s
unfolding scan counts
scan-grants s = walk-grants s.queue s [] ∙ omega arith

-- Each step: the stock and what it grants are the stock before and what it brings.

abbrev Balance : State → ℕ → List Grant → State → Type 0
Balance s n gs b = stock b + counts gs ≡ stock s + n

-- nothing granted, nothing brought
balanced : {m n : ℕ} → n ≡ m → n + counts [] ≡ m + 0
unfolding counts
balanced e = omega arith

-- taken and granted
balanced_taking : (g : Grant) {m n : ℕ} → g.count ≤ m → n ≡ m - g.count → n + counts (g ∷ []) ≡ m + 0
balanced_taking g l e = omega (arith, counts_one g)

release_balance : (t : TaskId) (n : ℕ) (s : State) → Balance s n (release t n s).grants (release t n s).state
unfolding adding counts
release_balance t n s =
    by_release (λ g. Balance s n g.grants g.state) t n s (λ e. omega arith)
    (λ l f. omega (arith, scan-grants (add_released t n s)))
    (λ l f. omega (arith, stock_of (untouched_wake (add_released t n s))))

poll_balance : (p : Polling) (t : TaskId) (x : Slot) (s : State) → PollSays p x s
    → Balance s 0 (poll_grants p t x s) (alter_request x (poll_mark (polled p) t) (poll_work p t x s))
unfolding poll_work
poll_balance Holds t x s k = balanced refl
poll_balance IsClosed t x s k = balanced refl
poll_balance Stays t x s k = balanced refl
poll_balance QueuesBack t x s k = balanced refl
poll_balance QueuesFront t x s k = balanced refl
poll_balance TakesReserved t x s k =
    let a = with_reservation None s in
    balanced_taking _ k.0.fits (stock_of (untouched_wake (take_as t (asked_at x s) a)) ∙ take-stock t (asked_at x s) a)
poll_balance Takes t x s k =
    balanced_taking _ k.fits (stock_of (untouched_roused (reblocks t (leave x (take_as t (asked_at x s) s)))) ∙ take-stock t (asked_at x s) s)
poll_balance Reserves t x s k = balanced (stock_of (untouched_roused (reblocks t (with_reservation (Some x) (leave x s)))))

try_balance : (d : Direct) (t : TaskId) (n : ℕ) (s : State) → (d ≡ Take → n ≤ stock s) → Balance s 0 (try_by d t n s).grants (try_by d t n s).state
unfolding try_by
try_balance Shut t n s k = balanced refl
try_balance NoPermits t n s k = balanced refl
try_balance Take t n s k = balanced_taking _ (k refl) (stock_of (untouched_roused (reblocks t (take_as t n s))) ∙ take-stock t n s)

-- what a drop brings: the permits of a holder that had not completed
drop_balance : (d : Dropping) (t : TaskId) (x : Slot) (s : State)
    → Balance s (returned d (asked_at x s)) (drop_work d t x s).grants (drop_work d t x s).state
unfolding drop_work
drop_balance Leaving t x s =
    by_drop-queued (λ g. Balance s 0 g.grants g.state) x s (omega (arith, scan-grants (leave x s)))
    (λ e. balanced refl)
drop_balance Unreserving t x s = balanced (stock_of (untouched_wake (with_reservation None s)))
drop_balance Returning t x s = release_balance t (asked_at x s) s
drop_balance Nothing t x s = balanced refl

-- who waits holds nothing, and gives nothing back
waiting : (x : Slot) (s : State) → (request_at x s).holding ≡ false → 0 ≡ cond (unfulfilled x s) (asked_at x s) 0
waiting x s e = ap (λ (b : Bool). cond (b && not (request_at x s).completed) (asked_at x s) 0) (sym e)

-- by the marks of the request alone
gives_back_lem : (d : Dropping) (x : Slot) (s : State) → Sound s → DropSays d x s → returned d (asked_at x s) ≡ cond (unfulfilled x s) (asked_at x s) 0
gives_back_lem Leaving x s h k = waiting x s (h.queued x (sym (h.marked x) ∙ k)).holding
gives_back_lem Unreserving x s h k = waiting x s (h.reserves x (has_reservation_lem x s k.1)).waits.holding
gives_back_lem Returning x s h k = sym (ap (λ (b : Bool). cond b (asked_at x s) 0) k.2)
gives_back_lem Nothing x s h k = sym (ap (λ (b : Bool). cond b (asked_at x s) 0) k.2)

-- what each sort of act brings back: released, and given up
abbrev brought : Sort → State → ℕ
brought o s =
    by_sort o (λ n. n) (λ x. 0) 0 + by_sort o (λ n. 0) (λ x. cond (unfulfilled x s) (asked_at x s) 0) 0

act_balance : (t : TaskId) (a : Act) (s : State) → Sound s → Allowed t a s
    → Balance s (releases a + gives_up a s) (effect_of t a s).grants (effect_of t a s).state
unfolding make poll drop_request
act_balance t a s h k =
    by_act {X = λ o r. Balance s (brought o s) r.grants r.state}
    (record {
      makes = λ b m. balanced refl;
      polls = λ x p. poll_balance (polling x s) t x s (poll-says x s);
      tries = λ p n m c. try_balance (direct p n s) t n s (take-fits p n s);
      releases = λ n r. omega (arith, release_balance t n s);
      drops = λ x u r. omega (arith, drop_balance (dropping x s) t x s, gives_back_lem (dropping x s) x s h (drop-says x s));
      closes = balanced (stock_of (untouched_closing s));
      sleeps = balanced refl;
      finishes = balanced refl;
    })
    a k

pub step_balance : (a : Step) (s : State) → Sound s
    → stock (step a s).state + counts (step a s).grants ≡ stock s + if_accepted (refusal a s) (releases a.act + gives_up a.act s) 0
unfolding step
step_balance a s h = go (refusal a s) refl
  where
    go : (o : Option ℕ) → refusal a s ≡ o → Balance s (if_accepted o (releases a.act + gives_up a.act s) 0) (unless o a s).grants (unless o a s).state
    go None e = act_balance a.actor a.act s h (accepted a s e).allowed
    go (Some n) e = balanced refl

-- a sum over the steps is the sum of its two parts
accepted-sum : (o : Option ℕ) (m n : ℕ) → if_accepted o (m + n) 0 ≡ if_accepted o m 0 + if_accepted o n 0
accepted-sum None m n = refl
accepted-sum (Some r) m n = refl

pub run_balance : (as' : List Step) (s : State) → Sound s
    → stock (run as' s).state + granted_in (run as' s).said ≡ stock s + (released_in as' s + given_up_in as' s)
unfolding run granted_in over_run
run_balance [] s h = omega arith
run_balance (a ∷ as') s h =
    let b = (step a s).state in
    omega (arith, run_balance as' b (sound-step a s h), step_balance a s h, accepted-sum (refusal a s) (releases a.act) (gives_up a.act s))

-- What 10 does not refuse carries no stock past the largest.

added_fits : (m n : ℕ) → m ≤ largest → (0 < n → m + n ≤ largest) → m + n ≤ largest
added_fits m zero l f = omega arith
added_fits m (suc n) l f = f (omega arith)

act_stock : (t : TaskId) (a : Act) (s : State) → stock s ≤ largest → Allowed t a s → stock (effect_of t a s).state ≤ largest
unfolding make poll drop_request
act_stock t a s l k =
    by_act {X = λ o r. stock r.state ≤ largest}
    (record {
      makes = λ b m. l;
      polls = λ x p. omega (arith, poll_balance (polling x s) t x s (poll-says x s));
      tries = λ p n m c. omega (arith, try_balance (direct p n s) t n s (take-fits p n s));
      releases = λ n r. omega (arith, added_fits (stock s) n l r.fits, release_balance t n s);
      drops = λ x u r. omega (arith, added_fits (stock s) (gives_back x s) l r.fits, drop_balance (dropping x s) t x s);
      closes = omega (arith, stock_of (untouched_closing s));
      sleeps = l;
      finishes = l;
    })
    a k

pub step-stock : (a : Step) (s : State) → stock s ≤ largest → stock (step a s).state ≤ largest
step-stock a s l = by_refusal (λ o. stock o.state ≤ largest) a s (λ e. act_stock a.actor a.act s l (accepted a s e).allowed) (λ n e. l)
