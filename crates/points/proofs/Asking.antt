-- Each question, from the tests that the code makes.
use Rattle.std.specs.Prelude.{Option, None, Some, is_some, Result, Ok, Err}
use Prim.Native.Nat.{ℕ}
use mathlib.Core.Path.{◌≡◌, sym, ap, ◌∙◌}
use mathlib.Core.Bool.{Bool, true, false, cond, not, ◌&&◌, ◌||◌}
use mathlib.Core.List.{List}
use lib.Dec.{leb}
use lib.ListN.{get_or}
use Rattle.rules.specs.declared.TaskId.{TaskId}
use Rattle.rules.specs.declared.Slot.{Slot}
use Rattle.rules.specs.declared.Question.{Question}
use Rattle.rules.specs.declared.Question.TheVariants.{BeforePoll, BeforeDropAgain}
use Rattle.rules.specs.State.{is_strict}
use Rattle.rules.specs.Refusals.{Ground, first}
use Rattle.rules.specs.Points.{Told as RuleTold, tell}
use Rattle.rules.specs.Points.Told.{tells, refuses}
use Rattle.splitting.specs.Plain.{Plain, Request as RequestRule, available}
use Rattle.splitting.specs.Asking.{waits, point, point_grounds, told_of}
use Rattle.splitting.specs.Parts.{or_else}
use Rattle.replies.specs.declared.Refusal.{Refusal}
use Rattle.replies.specs.declared.Refusal.TheVariants.{NoSuchRequest}
use Rattle.replies.specs.Answers.{number_of, given}
use Rattle.records.specs.declared.Request.{Request}
use Rattle.records.specs.View.{Stands}
use Rattle.words.specs.View.{slots_of}
use Rattle.head.specs.declared.Head.{Head}
use Rattle.head.specs.View.{plain_of}
use Rattle.planning.specs.Plans.{Says, actor_grounds}
use Rattle.planning.proofs.Composing.{first-after}
use Rattle.planning.proofs.Grounds.{used-read}
use Rattle.points.specs.Told.{answer}

-- ---- what comes first
pub told_here : (n : ℕ) (b c : Bool) (o : Option ℕ) → b ≡ true → refuses n ≡ tell (cond b (Some n) o) c
told_here n b c o e = rw e

pub told-on : (n : ℕ) (b c : Bool) (o : Option ℕ) (t : RuleTold) → b ≡ false → t ≡ tell o c → t ≡ tell (cond b (Some n) o) c
told-on n b c o t e f = rw e f

pub told-point : (b c : Bool) → b ≡ c → tells b ≡ tell None c
told-point b c e = ap tells e

-- 3, of the request that is read at the slot
pub told_missing : (w : Refusal) (o : Option RequestRule) (q : Option ℕ) (b : Bool) → (w ≡ NoSuchRequest) × (o ≡ None) → refuses (number_of w) ≡ tell (cond (not (is_some o)) (Some 3) q) b
told_missing w o q b h = rw (h.0, h.1)

pub told_found : (r : Request) (o : Option RequestRule) (q : Option ℕ) (b : Bool) (t : RuleTold) → Stands r o → r.used ≡ true → t ≡ tell q b → t ≡ tell (cond (not (is_some o)) (Some 3) q) b
told_found r o q b t s u e = told-on 3 _ b q t (used-read r o s false (rw u)) e

-- ---- the point, of the request that is read at the slot
module _ (h : Head) (x : Slot) (r : Request) (ss ts : List ℕ) (e : Stands r (get_or (slots_of ss) x.0 None)) where
  -- a poll
  pub poll_read : (n : ℕ) → n ≡ cond (is_some h.reservation) 0 h.stock
      → (not r.polled && (is_strict h.fairness || r.holding || h.closed || leb r.ask.least n)) ≡ point (BeforePoll x) (plain_of h ss ts)
  unfolding point
  poll_read n en =
      rw en (ap (λ (q : RequestRule). not q.polled && (is_strict h.fairness || q.holding || h.closed || leb q.ask.least (available (plain_of h ss ts)))) e.view)

  -- a drop's second question
  pub drop_again_read : (w : Bool) → w ≡ waits x (plain_of h ss ts) → (not w && r.holding && not r.completed) ≡ point (BeforeDropAgain x) (plain_of h ss ts)
  unfolding point
  drop_again_read w ew =
      rw ew (ap (λ (q : RequestRule). not (waits x (plain_of h ss ts)) && q.holding && not q.completed) e.view)

-- ---- by the question, and by the actor
pub of_question : (q d : Question) (p : Plain) (t : RuleTold) → q ≡ d → t ≡ answer d p → t ≡ answer q p
of_question q d p t e f = f ∙ ap (λ (k : Question). answer k p) (sym e)

module _ (h : Head) (ss ts : List ℕ) (me : TaskId) (q : Question) (r : Result (Unit {0}) Refusal) (s : (ss : List ℕ) → Says r (actor_grounds me (plain_of h ss ts))) where
  by_actor : tell (or_else (given r) (first (point_grounds q (plain_of h ss ts)))) (point q (plain_of h ss ts)) ≡ told_of me q (plain_of h ss ts)
  unfolding told_of
  by_actor =
      let own : List Ground = point_grounds q (plain_of h ss ts) in
      ap (λ (o : Option ℕ). tell o (point q (plain_of h ss ts))) (ap (λ (o : Option ℕ). or_else o (first own)) (s ss).first ∙ sym (first-after (actor_grounds me (plain_of h ss ts)) own))

  pub actor-refused : (w : Refusal) → r ≡ Err w → refuses (number_of w) ≡ told_of me q (plain_of h ss ts)
  actor-refused w e = rw e at by_actor

  pub actor-accepted : (t : RuleTold) → r ≡ Ok (record {}) → ((ts : List ℕ) → t ≡ answer q (plain_of h ss ts)) → t ≡ told_of me q (plain_of h ss ts)
  actor-accepted t e f = f ts ∙ (rw e at by_actor)
