-- How long the line of a step is. A step grants no slot twice and none beyond 31, so that ten of them have one digit at most and the others
-- two: 85 bytes with the commas between.
use Rattle.std.specs.Prelude.{Some}
use Prim.Native.Nat.{ℕ, zero, suc, ◌+◌, ◌≤◌, ◌<◌}
use native.Mathlib.Omega.{arith}
use mathlib.Core.Path.{◌≡◌, refl, sym, subst, ap, ◌∙◌}
use mathlib.Core.Bool.{Bool, true, false, cond, false≢true}
use mathlib.Core.List.{List, [], ◌∷◌, ◌++◌, map}
use lib.ListN.{length, length-append}
use borrow.Author.Tests.{eqb-false}
use Rattle.rules.specs.declared.TaskId.{TaskId}
use Rattle.rules.specs.declared.Slot.{Slot}
use Rattle.rules.specs.declared.Grant.{Grant}
use Rattle.rules.specs.declared.Direct.{Direct}
use Rattle.rules.specs.declared.Direct.TheVariants.{Shut, NoPermits, Take}
use Rattle.rules.specs.declared.Polling.{Polling}
use Rattle.rules.specs.declared.Polling.TheVariants.{Holds, IsClosed, Stays, QueuesBack, QueuesFront, TakesReserved, Takes, Reserves}
use Rattle.rules.specs.declared.Dropping.{Dropping}
use Rattle.rules.specs.declared.Dropping.TheVariants.{Leaving, Unreserving, Returning, Nothing}
use Rattle.rules.specs.declared.Act.{Act}
use Rattle.rules.specs.declared.Act.TheVariants.{Acquire, AcquireBypassable, AcquireReserving, Upgrade, Poll, Try, TryUpgrade, Release, Drop, Close, Sleep, Finish}
use Rattle.rules.specs.declared.Step.{Step}
use Rattle.rules.specs.Sizes.{slot_count, largest}
use Rattle.rules.specs.State.{State, stock, reserved, same_slot, available, asked_at}
use Rattle.rules.specs.Taking.{direct}
use Rattle.rules.specs.Scan.{Granting, without, leave, scan, queue_grant}
use Rattle.rules.specs.Polling.{polling, poll_grants, polled}
use Rattle.rules.specs.Steps.{Answer, Outcome, quiet, doing, lowest_free, make, try_by, poll_answer, poll, add_released, release, dropping, drop_work, drop_request, effect_of}
use Rattle.rules.specs.Steps.Answer.{done, refused}
use Rattle.rules.specs.Refusals.{no_such_task, not_runnable, returned, Ground, ◌if◌, first, grounds, refusal}
use Rattle.rules.specs.Runs.{step}
use Rattle.rules.specs.Broken.{any_of, member, twice}
use Rattle.rules.specs.Sound.{Sound}
use Rattle.rules.specs.Promises.{Each}
use Rattle.rules.specs.Text.{space, line_feed, comma, joined_by, last_digits, digits}
use Rattle.rules.specs.Script.{answer_text, closed_text, taker_text, grants_text, outcome_text}
use Rattle.rules.proofs.Bools.{by_cond, by_test, clash, or_other}
use Rattle.rules.proofs.Queues.{same-slot, same_itself, member-without, gone_without, once-without}
use Rattle.rules.proofs.Slots.{used-below}
use Rattle.rules.proofs.Accepting.{Releasable, Allowed, accepted}
use Rattle.rules.proofs.Acting.{by_act}
use Rattle.rules.proofs.Decisions.{by_release, by_drop-queued}
use Rattle.rules.proofs.KeepsQueue.{sound-leave}
use Rattle.rules.proofs.KeepsScan.{by_walk}
use Rattle.rules.proofs.KeepsSteps.{sound_added, by_refusal, sound-step}
use Rattle.rules.proofs.Conservation.{step-stock}
use Rattle.rules.proofs.Decimal.{digits-length}

-- A slot's digits and a comma; those of some slots; those of the slots below n.

slot_bytes : ℕ → ℕ
slot_bytes n = suc (length (digits n))

queue_bytes : List Slot → ℕ
queue_bytes [] = 0
queue_bytes (x ∷ q) = slot_bytes x.0 + queue_bytes q

bytes_below : ℕ → ℕ
bytes_below zero = 0
bytes_below (suc n) = slot_bytes n + bytes_below n

without-bytes : (x : Slot) (q : List Slot) → member x q ≡ true → queue_bytes q ≡ slot_bytes x.0 + queue_bytes (without x q)
unfolding without any_of queue_bytes
without-bytes x [] e = absurd (false≢true e)
without-bytes x (y ∷ q) e =
    by_test (same_slot x y) (λ f. rw f (ap (λ (z : Slot). slot_bytes z.0 + queue_bytes q) (sym (same-slot x y f))))
    (λ f.
    let k = without-bytes x q (or_other (same_slot x y) (member x q) e f) in
    rw f (omega arith))

below_less : (n : ℕ) (y : Slot) → y.0 < suc n → same_slot (record { 0 = n }) y ≡ false → y.0 < n
below_less n y l e = let k = eqb-false n y.0 e in omega arith

-- slots that stand once are no more than all that there are
few_bytes : (n : ℕ) (q : List Slot) → twice q ≡ false → ((x : Slot) → member x q ≡ true → x.0 < n) → queue_bytes q ≤ bytes_below n
unfolding any_of queue_bytes bytes_below
few_bytes zero [] o b = omega arith
few_bytes zero (x ∷ q) o b = absurd (omega (arith, b x (rw (same_itself x) refl)))
few_bytes (suc n) q o b =
    by_test (member z q)
    (λ e.
    let k = few_bytes n (without z q) (once-without z q o) (λ y m. rest y (other y m) (sym (member-without y z q (other y m)) ∙ m)) in
    omega (arith, without-bytes z q e, k))
    (λ e. let k = few_bytes n q o (λ y m. rest y (by_test (same_slot z y) (λ f. clash (subst (λ (w : Slot). member w q ≡ true) (sym (same-slot z y f)) m) e) (λ f. f)) m) in omega (arith, k))
  where
    z : Slot
    z = record { 0 = n }

    other : (y : Slot) → member y (without z q) ≡ true → same_slot z y ≡ false
    other y m = by_test (same_slot z y) (λ f. clash (subst (λ (w : Slot). member w (without z q) ≡ true) (sym (same-slot z y f)) m) (gone_without z q o)) (λ f. f)

    rest : (y : Slot) → same_slot z y ≡ false → member y q ≡ true → y.0 < n
    rest y f m = below_less n y (b y m) f

-- Grants, with a comma behind each.

grant_bytes : List Grant → ℕ
grant_bytes [] = 0
grant_bytes (g ∷ gs) = suc (length (taker_text g.taker)) + grant_bytes gs

append_bytes : (gs hs : List Grant) → grant_bytes (gs ++ hs) ≡ grant_bytes gs + grant_bytes hs
unfolding grant_bytes
append_bytes [] hs = omega arith
append_bytes (g ∷ gs) hs = omega (arith, append_bytes gs hs)

-- those of a scan are of slots that stood in the queue
scan-bytes : (s : State) → grant_bytes (scan s).grants ≤ queue_bytes s.queue
unfolding scan queue_bytes grant_bytes slot_bytes
scan-bytes s =
    by_walk {P = λ q b gs. grant_bytes gs + queue_bytes q ≤ queue_bytes s.queue} {R = λ g. grant_bytes g.grants ≤ queue_bytes s.queue} (
    record {
      leaves = λ x q b gs k w. omega (arith, w);
      fits = λ x q b gs k w. omega (arith, w, append_bytes gs (queue_grant x b ∷ []));
      passed = λ x q b gs k w. omega (arith, w);
      ends = λ x q b gs k w. omega (arith, w);
      over = λ b gs w. omega (arith, w);
    }
    )
    s.queue s [] (omega arith)

-- the most
abbrev most : ℕ
most = bytes_below slot_count

most_is : most ≡ 86
unfolding bytes_below slot_bytes digits last_digits
most_is = refl

scan-short : (s : State) → Sound s → grant_bytes (scan s).grants ≤ most
scan-short s h = omega (arith, scan-bytes s, few_bytes slot_count s.queue h.once (λ x m. (h.queued x m).below))

module _ (s : State) (h : Sound s) where
  release-short : (t : TaskId) (n : ℕ) → Releasable t n s → grant_bytes (release t n s).grants ≤ most
  unfolding grant_bytes
  release-short t n k =
      by_release (λ g. grant_bytes g.grants ≤ most) t n s (λ e. omega arith)
      (λ l f. scan-short (add_released t n s) (sound_added t n s k l h)) (λ l f. omega arith)

  drop-short : (d : Dropping) (t : TaskId) (x : Slot) → Releasable t (returned d (asked_at x s)) s → grant_bytes (drop_work d t x s).grants ≤ most
  unfolding drop_work grant_bytes
  drop-short Leaving t x k =
      by_drop-queued (λ g. grant_bytes g.grants ≤ most) x s (scan-short (leave x s) (sound-leave x s h)) (λ e. omega arith)
  drop-short Unreserving t x k = omega arith
  drop-short Returning t x k = release-short t (asked_at x s) k
  drop-short Nothing t x k = omega arith

-- What a step says: only a release or a drop grants more than one, and its answer is `done`.

record Short (o : Outcome) : Type 0 where
  answer : length (answer_text o.answer) ≤ 7
  said : length (answer_text o.answer) + grant_bytes o.grants ≤ 90

-- one grant, or none
few-short : (o : Outcome) → length (answer_text o.answer) ≤ 7 → grant_bytes o.grants ≤ 3 → Short o
few-short o a g = record { answer = a; said = omega arith }

quiet_short : (a : Answer) (s : State) → length (answer_text a) ≤ 7 → Short (quiet a s)
unfolding grant_bytes
quiet_short a s l = few-short (quiet a s) l (omega arith)

done_short : (g : Granting) → grant_bytes g.grants ≤ most → Short (doing g)
done_short g l = record { answer = omega arith; said = omega (arith, most_is) }

-- a number below 100 has two digits at most
two_digits : (n : ℕ) → n < 100 → length (digits n) ≤ 2
two_digits n l = digits-length n 1 (omega arith)

poll-short : (p : Polling) (t : TaskId) (x : Slot) (s b : State) → x.0 < slot_count → Short (record { answer = poll_answer (polled p); grants = poll_grants p t x s; state = b })
unfolding grant_bytes
poll-short Holds t x s b l = few-short _ (omega arith) (omega arith)
poll-short IsClosed t x s b l = few-short _ (omega arith) (omega arith)
poll-short Stays t x s b l = few-short _ (omega arith) (omega arith)
poll-short QueuesBack t x s b l = few-short _ (omega arith) (omega arith)
poll-short QueuesFront t x s b l = few-short _ (omega arith) (omega arith)
poll-short TakesReserved t x s b l = few-short _ (omega arith) (omega (arith, two_digits x.0 (omega arith)))
poll-short Takes t x s b l = few-short _ (omega arith) (omega (arith, two_digits x.0 (omega arith)))
poll-short Reserves t x s b l = few-short _ (omega arith) (omega arith)

try_short : (d : Direct) (t : TaskId) (n : ℕ) (s : State) → Short (try_by d t n s)
unfolding try_by grant_bytes
try_short Shut t n s = few-short _ (omega arith) (omega arith)
try_short NoPermits t n s = few-short _ (omega arith) (omega arith)
try_short Take t n s = few-short _ (omega arith) (omega arith)

-- a refusal's number is below 100
first_below : (gs : List Ground) (n : ℕ) → Each (λ (g : Ground). g.number < 100) gs → first gs ≡ Some n → n < 100
first_below [] n h e = let z : ◌≡◌ {A = ℕ} 0 1 = cc in absurd (omega arith)
first_below (g ∷ gs) n h e = go g.given (first_below gs n h.1) e
  where
    go : (b : Bool) → (first gs ≡ Some n → n < 100) → cond b (Some g.number) (first gs) ≡ Some n → n < 100
    go true k e = let q : g.number ≡ n = cc in omega (arith, h.0)
    go false k e = k e

grounds-below : (t : TaskId) (a : Act) (s : State) → Each (λ (g : Ground). g.number < 100) (grounds t a s)
unfolding grounds
grounds-below t (Acquire n) s = (omega arith, tt)
grounds-below t (AcquireBypassable n) s = (omega arith, tt)
grounds-below t (AcquireReserving least n) s = (omega arith, (omega arith, (omega arith, tt)))
grounds-below t (Upgrade held wanted) s = (omega arith, (omega arith, tt))
grounds-below t (Poll x) s = (omega arith, (omega arith, (omega arith, (omega arith, tt))))
grounds-below t (Try n) s = (omega arith, (omega arith, tt))
grounds-below t (TryUpgrade held wanted) s = (omega arith, (omega arith, tt))
grounds-below t (Release n) s = (omega arith, (omega arith, (omega arith, tt)))
grounds-below t (Drop x) s = (omega arith, (omega arith, (omega arith, (omega arith, tt))))
grounds-below t Close s = tt
grounds-below t Sleep s = tt
grounds-below t Finish s = tt

refusal-below : (a : Step) (s : State) (n : ℕ) → refusal a s ≡ Some n → n < 100
unfolding refusal
refusal-below a s n e =
    first_below (1 if no_such_task a.actor s ∷ 2 if not_runnable a.actor s ∷ grounds a.actor a.act s) n (omega arith, (omega arith, grounds-below a.actor a.act s)) e

module _ (s : State) (h : Sound s) where
  act_short : (t : TaskId) (a : Act) → Allowed t a s → Short (effect_of t a s)
  unfolding make poll drop_request
  act_short t a k =
      by_act {X = λ o r. Short r}
      (record {
        makes = λ b m. quiet_short _ _ (omega (arith, m.slot, two_digits (lowest_free s.slots) (omega (arith, m.slot))));
        polls = λ x p. poll-short (polling x s) t x s _ (used-below x s h.slots p.used);
        tries = λ p n m c. try_short (direct p n s) t n s;
        releases = λ n r. done_short (release t n s) (release-short s h t n r);
        drops = λ x u r. done_short (drop_request t x s) (drop-short s h (dropping x s) t x r);
        closes = quiet_short done _ (omega arith);
        sleeps = quiet_short done _ (omega arith);
        finishes = quiet_short done _ (omega arith);
      })
      a k

  step-short : (a : Step) → Short (step a s)
  step-short a =
      by_refusal Short a s (λ e. act_short a.actor a.act (accepted a s e).allowed)
      (λ n e. quiet_short (refused n) s (omega (arith, two_digits n (refusal-below a s n e))))

-- As text: a comma less.

joined_bytes : (g : Grant) (gs : List Grant) → suc (length (grants_text (g ∷ gs))) ≡ grant_bytes (g ∷ gs)
unfolding joined_by grant_bytes
joined_bytes g [] = omega arith
joined_bytes g (k ∷ gs) =
    omega (arith, joined_bytes k gs, length-append (taker_text g.taker) (comma ∷ joined_by comma (map (λ (h : Grant). taker_text h.taker) (k ∷ gs))))

text-short : (n : ℕ) (gs : List Grant) → n ≤ 7 → n + grant_bytes gs ≤ 90 → n + length (grants_text gs) ≤ 89
text-short n [] l m = omega arith
text-short n (g ∷ gs) l m = omega (arith, joined_bytes g gs)

-- The line: beside answer and grants two numbers of ten digits, one of one and one of two, five spaces and the line feed.

joined_length : (b : ℕ) (p q : List ℕ) (ps : List (List ℕ)) → length (joined_by b (p ∷ q ∷ ps)) ≡ length p + suc (length (joined_by b (q ∷ ps)))
unfolding joined_by
joined_length b p q ps = length-append p (b ∷ joined_by b (q ∷ ps))

joined_one : (b : ℕ) (p : List ℕ) → length (joined_by b (p ∷ [])) ≡ length p
unfolding joined_by
joined_one b p = refl

six_length : (b : ℕ) (p q r t u v : List ℕ)
    → length (joined_by b (p ∷ q ∷ r ∷ t ∷ u ∷ v ∷ [])) ≡ length p + length q + length r + length t + length u + length v + 5
six_length b p q r t u v =
    omega (arith, joined_length b p q (r ∷ t ∷ u ∷ v ∷ []), joined_length b q r (t ∷ u ∷ v ∷ []), joined_length b r t (u ∷ v ∷ []), joined_length b t u (v ∷ []), joined_length b u v [], joined_one b v)

ten_digits : (n : ℕ) → n ≤ largest → length (digits n) ≤ 10
ten_digits n l = digits-length n 9 (omega arith)

closed-length : (b : Bool) → length (closed_text b) ≡ 1
closed-length true = refl
closed-length false = refl

pub line-short : (o : Outcome) (n : ℕ) → Sound o.state → stock o.state ≤ largest
    → length (answer_text o.answer) + length (grants_text o.grants) ≤ n → length (outcome_text o) ≤ n + 29
unfolding outcome_text
line-short o n h l m =
    let s = o.state in
    let a : length (digits (available s)) ≤ 10 = by_cond (λ (k : ℕ). length (digits k) ≤ 10) (reserved s) (λ e. ten_digits 0 (omega arith)) (λ e. ten_digits (stock s) l) in
    let ps = six_length space (answer_text o.answer) (digits (available s)) (digits (stock s)) (closed_text s.closed) (digits (length s.queue)) (grants_text o.grants) in
    omega (arith, a, ps, length-append (joined_by space (answer_text o.answer ∷ digits (available s) ∷ digits (stock s) ∷ closed_text s.closed ∷ digits (length s.queue) ∷ grants_text o.grants ∷ [])) (line_feed ∷ []), ten_digits (stock s) l, closed-length s.closed, two_digits (length s.queue) (omega (arith, h.room)))

module _ (a : Step) (s : State) (h : Sound s) (l : stock s ≤ largest) where
  pub outcome-short : length (outcome_text (step a s)) ≤ 118
  outcome-short =
      let k = step-short s h a in
      line-short (step a s) 89 (sound-step a s h) (step-stock a s l) (text-short _ (step a s).grants k.answer k.said)

  -- where nothing is granted
  pub quiet-outcome : (step a s).grants ≡ [] → length (outcome_text (step a s)) ≤ 37
  quiet-outcome e =
      line-short (step a s) 8 (sound-step a s h) (step-stock a s l)
      (subst (λ (gs : List Grant). length (answer_text (step a s).answer) + length (grants_text gs) ≤ 8) (sym e) (omega (arith, (step-short s h a).answer)))
