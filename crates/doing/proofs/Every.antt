-- In an arm of a match, the choice is the arm's: what it asks, and what it does.
use Prim.Native.Nat.{ℕ, ◌≤◌}
use mathlib.Core.Path.{◌≡◌, refl, sym, ap, subst, ◌∙◌}
use mathlib.Core.Bool.{true, false≢true}
use mathlib.Core.List.{List}
use Rattle.rules.specs.declared.TaskId.{TaskId}
use Rattle.rules.specs.declared.Slot.{Slot}
use Rattle.rules.specs.declared.Direct.{Direct}
use Rattle.rules.specs.declared.Direct.TheVariants.{Shut, NoPermits, Take}
use Rattle.rules.specs.declared.Polling.{Polling}
use Rattle.rules.specs.declared.Dropping.{Dropping}
use Rattle.rules.specs.Steps.Answer.{done}
use Rattle.splitting.specs.Plain.{Plain}
use Rattle.splitting.specs.Who.{quiet, try_by, release, closing}
use Rattle.replies.specs.declared.Reply.TheVariants.{Done}
use Rattle.head.specs.declared.Head.{Head}
use Rattle.head.specs.declared.Granting.{Granting}
use Rattle.head.specs.declared.Answered.{Answered}
use Rattle.head.specs.View.{plain_of, Grants, Answers}
use Rattle.choosing.specs.declared.Choice.{Choice}
use Rattle.choosing.specs.declared.Choice.TheVariants.{Polls, Tries, Releases, Drops, Closes}
use Rattle.choosing.specs.Choice.{poll_by, drop_by, effect_by, poll_moves, try_moves, moves_in}
use Rattle.doing.specs.Effects.{AnyGrants, MayRelease, MayPoll, MayDrop, Asks, Able}
use Rattle.doing.proofs.Released.{done_with}

takes_so : (d : Direct) → try_moves d ≡ true → d ≡ Take
takes_so Shut e = absurd (false≢true e)
takes_so NoPermits e = absurd (false≢true e)
takes_so Take e = refl

-- ---- what is asked
module _ (c : Choice) (s : Plain) (a : Able c s) where
  asked : (k : Choice) → c ≡ k → Asks k s
  asked k e = subst (λ (c : Choice). Asks c s) e a.asks

  pub asks-poll : (x : Slot) (n : ℕ) (q : Polling) → c ≡ Polls x n q → MayPoll q n x s
  asks-poll x n q e = asked (Polls x n q) e

  pub poll-moves : moves_in c ≡ true → (x : Slot) (n : ℕ) (q : Polling) → c ≡ Polls x n q → poll_moves q ≡ true
  poll-moves m x n q e = sym (ap moves_in e) ∙ m

  pub asks-release : (n : ℕ) → c ≡ Releases n → MayRelease n s
  asks-release n e = asked (Releases n) e

  pub asks-drop : (x : Slot) (n : ℕ) (d : Dropping) → c ≡ Drops x n d → MayDrop d n x s
  asks-drop x n d e = asked (Drops x n d) e

pub asks_try : (c : Choice) (h : Head) (ss ts : List ℕ) → Able c (plain_of h ss ts) → moves_in c ≡ true → (n : ℕ) (d : Direct) → c ≡ Tries n d → n ≤ h.stock
asks_try c h ss ts a m n d e = asked c (plain_of h ss ts) a (Tries n d) e (takes_so d (sym (ap moves_in e) ∙ m))

-- ---- what is done
module _ (c : Choice) (t : TaskId) (h : Head) (ss ts : List ℕ) (r : Answered) (after awake gs : List ℕ) where
  by : (k : Choice) → c ≡ k → Answers r after awake gs (effect_by t k (plain_of h ss ts)) → Answers r after awake gs (effect_by t c (plain_of h ss ts))
  by k e a = subst (λ (c : Choice). Answers r after awake gs (effect_by t c (plain_of h ss ts))) (sym e) a

  pub does-poll : (x : Slot) (n : ℕ) (q : Polling) → c ≡ Polls x n q → Answers r after awake gs (poll_by q t x (plain_of h ss ts)) → Answers r after awake gs (effect_by t c (plain_of h ss ts))
  unfolding effect_by
  does-poll x n q e a = by (Polls x n q) e a

  pub does-release : (n : ℕ) (g : Granting) → c ≡ Releases n → Grants g after awake gs (release n (plain_of h ss ts)) → r ≡ record { reply = Done; count = g.count; head = g.head } → Answers r after awake gs (effect_by t c (plain_of h ss ts))
  unfolding effect_by
  does-release n g e k f = by (Releases n) e (done_with g r after awake gs _ f k)

  pub does-drop : (x : Slot) (n : ℕ) (d : Dropping) (g : Granting) → c ≡ Drops x n d → Grants g after awake gs (drop_by d x (plain_of h ss ts)) → r ≡ record { reply = Done; count = g.count; head = g.head } → Answers r after awake gs (effect_by t c (plain_of h ss ts))
  unfolding effect_by
  does-drop x n d g e k f = by (Drops x n d) e (done_with g r after awake gs _ f k)

  pub does-close : c ≡ Closes → AnyGrants r after awake (quiet done (closing (plain_of h ss ts))) → Answers r after awake gs (effect_by t c (plain_of h ss ts))
  unfolding effect_by
  does-close e a = by Closes e (a gs)

  pub does_try : moves_in c ≡ true → (n : ℕ) (d : Direct) → c ≡ Tries n d → Answers r after awake gs (try_by Take t n (plain_of h ss ts)) → Answers r after awake gs (effect_by t c (plain_of h ss ts))
  unfolding effect_by
  does_try m n d e a =
      by (Tries n d) e
      (subst (λ (d : Direct). Answers r after awake gs (try_by d t n (plain_of h ss ts))) (sym (takes_so d (sym (ap moves_in e) ∙ m))) a)
