-- Each ground, from the tests that the code makes.
use Rattle.std.specs.Prelude.{Option, None, Some, is_some, unwrap_or, Result}
use Prim.Native.Nat.{ℕ, ◌≤◌, ◌<◌}
use mathlib.Core.Path.{◌≡◌, refl, sym, ap, ◌∙◌}
use mathlib.Core.Bool.{Bool, true, false, cond, not}
use mathlib.Core.List.{List, [], ◌∷◌}
use borrow.Author.Tests.{le-leb, lt-leb}
use lib.Dec.{leb}
use lib.ListN.{length, get_or}
use Rattle.rules.specs.declared.Slot.{Slot}
use Rattle.rules.specs.declared.Act.TheVariants.{Release}
use Rattle.rules.specs.Refusals.{◌if◌, first}
use Rattle.rules.specs.Task.{is_runnable}
use Rattle.splitting.specs.Plain.{Task as TaskRule, Request as RequestRule, no_task, no_request}
use Rattle.splitting.specs.Who.{too_many, gives_back, grounds}
use Rattle.replies.specs.declared.Refusal.{Refusal}
use Rattle.records.specs.declared.Task.{Task}
use Rattle.records.specs.declared.Request.{Request}
use Rattle.records.specs.View.{task_seen, request_of, Stands}
use Rattle.words.specs.View.{tasks_of}
use Rattle.words.proofs.Tasks.{length-tasks}
use Rattle.head.specs.declared.Head.{Head}
use Rattle.head.specs.View.{plain_of}
use Rattle.planning.specs.Plans.{Says, poll_asks_nothing}

-- 1 and 2
pub is_past : (n t : ℕ) (w : List ℕ) → n ≤ t → leb (length (tasks_of n w)) t ≡ true
is_past n t w l = rw (length-tasks w n) (le-leb n t l)

pub is_within : (n t : ℕ) (w : List ℕ) → t < n → leb (length (tasks_of n w)) t ≡ false
is_within n t w l = rw (length-tasks w n) (lt-leb n t l)

pub runs_read : (n t : ℕ) (w : List ℕ) (a : Task) (b v : Bool) → task_seen a ≡ get_or (tasks_of n w) t no_task → b ≡ is_runnable a.state → not b ≡ v
    → not (is_runnable (get_or (tasks_of n w) t no_task).state) ≡ v
runs_read n t w a b v e eb k = ap (λ (x : TaskRule). not (is_runnable x.state)) (sym e) ∙ ap not (sym eb) ∙ k

-- 3 and 4, of the request that is read at the slot
is_used : (r : Request) → is_some (cond r.used (Some (request_of r)) None) ≡ r.used
is_used r = go r.used
  where
    go : (b : Bool) → is_some (cond b (Some (request_of r)) None) ≡ b
    go true = refl
    go false = refl

module _ (r : Request) (o : Option RequestRule) (s : Stands r o) (v : Bool) where
  pub used-read : not r.used ≡ v → not (is_some o) ≡ v
  used-read t = ap (λ (x : Option RequestRule). not (is_some x)) (sym s.used) ∙ ap not (is_used r) ∙ t

  pub completed-read : r.completed ≡ v → (unwrap_or o no_request).completed ≡ v
  completed-read t = ap (λ (q : RequestRule). q.completed) (sym s.view) ∙ t

  -- 5
  pub nothing_read : (b closed : Bool) → b ≡ poll_asks_nothing (request_of r) closed → b ≡ v → poll_asks_nothing (unwrap_or o no_request) closed ≡ v
  nothing_read b closed e t = ap (λ (q : RequestRule). poll_asks_nothing q closed) (sym s.view) ∙ sym e ∙ t

-- a drop meets what a release of the same count does
pub as_released : (h : Head) (ss ts : List ℕ) (x : Slot) (n : ℕ) (r : Result (Unit {0}) Refusal) → n ≡ gives_back x (plain_of h ss ts) → ((ss ts : List ℕ) → Says r (grounds (Release n) (plain_of h ss ts)))
    → Says r (10 if too_many (gives_back x (plain_of h ss ts)) (plain_of h ss ts) ∷ [])
unfolding grounds
as_released h ss ts x n r e s = record { first = (s ss ts).first ∙ ap (λ (k : ℕ). first (10 if too_many k (plain_of h ss ts) ∷ [])) e }
