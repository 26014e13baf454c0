-- Words that changed beside a head that did not.
use Rattle.std.specs.Prelude.{Option, None, Some, is_none}
use Rattle.std.proofs.lemmas.Option.{none-some}
use Prim.Native.Nat.{ℕ, ◌<◌}
use native.Mathlib.Omega.{arith}
use mathlib.Core.Path.{◌≡◌, refl, sym, ap, subst, ◌∙◌}
use mathlib.Core.Bool.{true, false}
use mathlib.Core.List.{List}
use lib.ListN.{length, get_or, set}
use Rattle.rules.specs.declared.TaskId.{TaskId}
use Rattle.rules.specs.declared.Slot.{Slot}
use Rattle.rules.specs.declared.Ask.{Ask}
use Rattle.rules.specs.declared.Direct.{Direct}
use Rattle.rules.specs.declared.Direct.TheVariants.{Shut, NoPermits}
use Rattle.rules.specs.declared.Polling.{Polling}
use Rattle.rules.specs.declared.Polling.TheVariants.{Holds, IsClosed, Stays}
use Rattle.rules.specs.declared.Dropping.{Dropping}
use Rattle.rules.specs.declared.Dropping.TheVariants.{Nothing}
use Rattle.rules.specs.Sizes.{slot_count}
use Rattle.splitting.specs.Plain.{Plain, Task as TaskRule, Request as RequestRule, unpolled, with_slots, with_tasks, no_task, alter_task, slept, finished}
use Rattle.splitting.specs.Who.{quiet, try_by, poll_work, drop_work}
use Rattle.replies.specs.declared.Reply.{Reply}
use Rattle.replies.specs.declared.Reply.TheVariants.{Done, Made, Granted, Pending, Closed, NoPermits as NoneLeft}
use Rattle.replies.specs.Answers.{answer_of}
use Rattle.records.specs.declared.Request.{Request}
use Rattle.records.specs.declared.Task.{Task}
use Rattle.records.specs.declared.Marking.TheVariants.{PollsGranted, PollsClosed, PollsPending}
use Rattle.records.specs.View.{seen, task_seen}
use Rattle.words.specs.View.{slots_of, tasks_of, SlotsShow, TasksShow}
use Rattle.words.proofs.Grants.{no_grants}
use Rattle.head.specs.declared.Head.{Head}
use Rattle.head.specs.View.{plain_of, Shaped, Answers}
use Rattle.head.proofs.Shown.{slots_shown, tasks_shown}
use Rattle.choosing.specs.declared.Choice.{Choice}
use Rattle.choosing.specs.declared.Choice.TheVariants.{Makes, Polls, Tries, Drops, Sleeps, Finishes}
use Rattle.choosing.specs.Choice.{effect_by, moves_in, poll_moves, try_moves, drop_moves}
use Rattle.resting.specs.Resting.{Rested, HasSlot, RestsBy, SlotsRest, MarksRest, TasksRest, Alters}

not_both : (r : Option Reply) (y : Reply) → r ≡ Some y → r ≡ None → ⊥
not_both r y e f = none-some y (sym f ∙ e)

same-reply : (r : Option Reply) (y v : Reply) → r ≡ Some y → r ≡ Some v → y ≡ v
same-reply r y v e f = cc

-- ---- done: other slots, or other tasks
module _ (t : TaskId) (c : Choice) (y : Reply) (r : Option Reply) (said : r ≡ Some y) (stays : moves_in c ≡ false) where
  slots-rest : (ss ss' : List ℕ) (l : List (Option RequestRule)) → SlotsShow ss' ss l → length ss' ≡ length ss
      → ((h : Head) (ts : List ℕ) → quiet (answer_of y) (with_slots l (plain_of h ss ts)) ≡ effect_by t c (plain_of h ss ts)) → SlotsRest t c r ss' ss
  slots-rest ss ss' l s e k =
      record {
        moves = ap is_none said ∙ sym stays;
        still = λ f. absurd (not_both r y said f);
        rests = λ v f h ts z.
            subst (λ (u : Reply). Rested u h ss' ts (effect_by t c (plain_of h ss ts))) (same-reply r y v said f)
            (subst (Rested y h ss' ts) (k h ts) (record { state = slots_shown h ss ts z ss' l s e; answer = refl; grants = refl }));
      }

  tasks-rest : (n : ℕ) (ts ts' : List ℕ) (l : List TaskRule) → TasksShow n ts' ts l → length ts' ≡ length ts
      → ((h : Head) (ss : List ℕ) → h.tasks ≡ n → quiet (answer_of y) (with_tasks l (plain_of h ss ts)) ≡ effect_by t c (plain_of h ss ts)) → TasksRest t c n r ts' ts
  tasks-rest n ts ts' l s e k =
      record {
        moves = ap is_none said ∙ sym stays;
        still = λ f. absurd (not_both r y said f);
        rests = λ v f h ss q z.
            let s' : TasksShow h.tasks ts' ts l = subst (λ (m : ℕ). TasksShow m ts' ts l) (sym q) s in
            subst (λ (u : Reply). Rested u h ss ts' (effect_by t c (plain_of h ss ts))) (same-reply r y v said f)
            (subst (Rested y h ss ts') (k h ss q) (record { state = tasks_shown h ss ts z ts' l s' e; answer = refl; grants = refl }));
      }

-- ---- not done
moves-on : (t : TaskId) (c : Choice) (ss : List ℕ) → moves_in c ≡ true → SlotsRest t c None ss ss
moves-on t c ss e = record { moves = sym e; still = λ f. refl; rests = λ y f. absurd (not_both None y f refl) }

-- ---- a request that is made
pub made_so : (t : TaskId) (i : ℕ) (a : Ask) (q : Request) (ss ss' : List ℕ) → seen q ≡ Some (unpolled a t) → SlotsShow ss' ss (set (slots_of ss) i (seen q)) → length ss' ≡ length ss
    → SlotsRest t (Makes i a) (Some (Made (record { 0 = i }))) ss' ss
unfolding effect_by
made_so t i a q ss ss' e s l =
    slots-rest t (Makes i a) (Made (record { 0 = i })) _ refl refl ss ss' (set (slots_of ss) i (Some (unpolled a t)))
    (record { view = s.view ∙ ap (λ (o : Option RequestRule). set (slots_of ss) i o) e; stand = s.stand }) l (λ h ts. refl)

-- ---- a poll, by what it was decided to be
module _ (t : TaskId) (x : Slot) (p : Polling) (r : Option Reply) (ss ss' : List ℕ) where
  abbrev Polled : Polling → Type 0
  Polled k = (n : ℕ) → SlotsRest t (Polls x n k) r ss' ss

  as_poll : (k : Polling) → p ≡ k → Polled k → Polled p
  as_poll k e d = subst Polled (sym e) d

  module _ (l : length ss' ≡ length ss) where
    pub polls_holding : p ≡ Holds → MarksRest x PollsGranted Granted r ss' ss → Polled p
    unfolding effect_by poll_work
    polls_holding e m = as_poll Holds e (λ n. slots-rest t (Polls x n Holds) Granted r m.reply refl ss ss' _ m.slots l (λ h ts. refl))

    pub polls_closed : p ≡ IsClosed → MarksRest x PollsClosed Closed r ss' ss → Polled p
    unfolding effect_by poll_work
    polls_closed e m = as_poll IsClosed e (λ n. slots-rest t (Polls x n IsClosed) Closed r m.reply refl ss ss' _ m.slots l (λ h ts. refl))

    pub polls_staying : p ≡ Stays → MarksRest x (PollsPending t) Pending r ss' ss → Polled p
    unfolding effect_by poll_work
    polls_staying e m = as_poll Stays e (λ n. slots-rest t (Polls x n Stays) Pending r m.reply refl ss ss' _ m.slots l (λ h ts. refl))

pub polls_on : (t : TaskId) (x : Slot) (p k : Polling) (ss : List ℕ) → p ≡ k → poll_moves k ≡ true → (n : ℕ) → SlotsRest t (Polls x n p) None ss ss
polls_on t x p k ss e f n = moves-on t (Polls x n p) ss (ap poll_moves e ∙ f)

-- ---- a try: none of the words is changed
module _ (d : Direct) (t : TaskId) (n : ℕ) (ss : List ℕ) where
  unchanged : SlotsShow ss ss (slots_of ss)
  unchanged = record { view = refl; stand = λ s. s }

  as_try : (k : Direct) (y : Reply) → d ≡ k → SlotsRest t (Tries n k) (Some y) ss ss → SlotsRest t (Tries n d) (Some y) ss ss
  as_try k y e s = subst (λ (k : Direct). SlotsRest t (Tries n k) (Some y) ss ss) (sym e) s

  pub tries_shut : d ≡ Shut → SlotsRest t (Tries n d) (Some Closed) ss ss
  unfolding effect_by try_by
  tries_shut e = as_try Shut Closed e (slots-rest t (Tries n Shut) Closed _ refl refl ss ss _ unchanged refl (λ h ts. refl))

  pub tries_none : d ≡ NoPermits → SlotsRest t (Tries n d) (Some NoneLeft) ss ss
  unfolding effect_by try_by
  tries_none e = as_try NoPermits NoneLeft e (slots-rest t (Tries n NoPermits) NoneLeft _ refl refl ss ss _ unchanged refl (λ h ts. refl))

  pub tries_on : (k : Direct) → d ≡ k → try_moves k ≡ true → SlotsRest t (Tries n d) None ss ss
  tries_on k e f = moves-on t (Tries n d) ss (ap try_moves e ∙ f)

-- ---- a drop
module _ (t : TaskId) (x : Slot) (n : ℕ) (d : Dropping) (ss : List ℕ) where
  pub drops_nothing : (ss' : List ℕ) → d ≡ Nothing → SlotsShow ss' ss (set (slots_of ss) x.0 None) → length ss' ≡ length ss → SlotsRest t (Drops x n d) (Some Done) ss' ss
  unfolding effect_by drop_work
  drops_nothing ss' e s l =
      subst (λ (k : Dropping). SlotsRest t (Drops x n k) (Some Done) ss' ss) (sym e) (slots-rest t (Drops x n Nothing) Done _ refl refl ss ss' _ s l (λ h ts. refl))

  pub drops_on : (k : Dropping) → d ≡ k → drop_moves k ≡ true → SlotsRest t (Drops x n d) None ss ss
  drops_on k e f = moves-on t (Drops x n d) ss (ap drop_moves e ∙ f)

-- ---- a task
module _ (f : Task → Task → Type 0) (t : TaskId) (n : ℕ) (r : Option Reply) (ts ts' : List ℕ) (l : length ts' ≡ length ts) (q : Alters f t n r ts' ts) where
  task_so : (c : Choice) (g : TaskRule → TaskRule) → ((a b : Task) → f a b → task_seen b ≡ g (task_seen a)) → moves_in c ≡ false → ((p : Plain) → quiet (answer_of Done) (alter_task t g p) ≡ effect_by t c p) → TasksRest t c n r ts' ts
  task_so c g e m k =
      tasks-rest t c Done r q.reply m n ts ts' (set (tasks_of n ts) t.0 (g (get_or (tasks_of n ts) t.0 no_task)))
      (record { view = q.written.view ∙ ap (λ (z : TaskRule). set (tasks_of n ts) t.0 z) (e q.before q.after q.made ∙ ap g q.read); stand = q.written.stand }) l
      (λ h ss q. rw (← q) (k (plain_of h ss ts)))

  pub sleeps_so : ((a b : Task) → f a b → task_seen b ≡ slept (task_seen a)) → TasksRest t Sleeps n r ts' ts
  unfolding effect_by
  sleeps_so e = task_so Sleeps slept e refl (λ p. refl)

  pub finishes_so : ((a b : Task) → f a b → task_seen b ≡ finished (task_seen a)) → TasksRest t Finishes n r ts' ts
  unfolding effect_by
  finishes_so e = task_so Finishes finished e refl (λ p. refl)

-- ---- every choice: in an arm of a match, it is the arm's
module _ (t : TaskId) (c : Choice) (n : ℕ) (r : Option Reply) where
  pub by_slots : (d : Choice) (ss' ss ts : List ℕ) → c ≡ d → SlotsRest t d r ss' ss → RestsBy t c n r ss' ts ss ts
  by_slots d ss' ss ts e s =
      let k : SlotsRest t c r ss' ss = subst (λ (d : Choice). SlotsRest t d r ss' ss) (sym e) s in
      record { moves = k.moves; still = λ f. (k.still f, refl); rests = λ y f h q z. k.rests y f h ts z }

  pub by_tasks : (d : Choice) (ts' ss ts : List ℕ) → c ≡ d → TasksRest t d n r ts' ts → RestsBy t c n r ss ts' ss ts
  by_tasks d ts' ss ts e s =
      let k : TasksRest t c n r ts' ts = subst (λ (d : Choice). TasksRest t d n r ts' ts) (sym e) s in
      record { moves = k.moves; still = λ f. (refl, k.still f); rests = λ y f h q z. k.rests y f h ss q z }

  pub by_poll : (x : Slot) (m : ℕ) (p : Polling) (ss' ss ts : List ℕ) → c ≡ Polls x m p → ((asked : ℕ) → SlotsRest t (Polls x asked p) r ss' ss) → RestsBy t c n r ss' ts ss ts
  by_poll x m p ss' ss ts e s = by_slots (Polls x m p) ss' ss ts e (s m)

  pub by_try : (m : ℕ) (d : Direct) (ss ts : List ℕ) → c ≡ Tries m d → ((t : TaskId) (m : ℕ) (ss : List ℕ) → SlotsRest t (Tries m d) r ss ss) → RestsBy t c n r ss ts ss ts
  by_try m d ss ts e s = by_slots (Tries m d) ss ss ts e (s t m ss)

  pub by_drop : (x : Slot) (m : ℕ) (d : Dropping) (ss' ss ts : List ℕ) → c ≡ Drops x m d → ((t : TaskId) (back : ℕ) → SlotsRest t (Drops x back d) r ss' ss) → RestsBy t c n r ss' ts ss ts
  by_drop x m d ss' ss ts e s = by_slots (Drops x m d) ss' ss ts e (s t m)

pub by_moves : (t : TaskId) (c k : Choice) (n : ℕ) (ss ts : List ℕ) → c ≡ k → moves_in k ≡ true → RestsBy t c n None ss ts ss ts
by_moves t c k n ss ts e f = by_slots t c n None k ss ss ts e (moves-on t k ss f)

pub slot-there : (c : Choice) (i : ℕ) (a : Ask) → HasSlot c → c ≡ Makes i a → i < slot_count
slot-there c i a h e = h i a e

-- ---- what it comes to: of a step that moves, and of one that rests
module _ (t : TaskId) (c : Choice) (n : ℕ) (r : Option Reply) (ss' ts' ss ts : List ℕ) (by : RestsBy t c n r ss' ts' ss ts) where
  pub moves_so : r ≡ None → moves_in c ≡ true
  moves_so e = sym by.moves ∙ ap is_none e

  pub rests_so : (y : Reply) → r ≡ Some y → moves_in c ≡ false
  rests_so y e = sym by.moves ∙ ap is_none e

  pub rests-answer : (y : Reply) → r ≡ Some y → (h : Head) → h.tasks ≡ n → Shaped h ss ts → (gs : List ℕ)
      → Answers (record { reply = y; count = 0; head = h }) ss' ts' gs (effect_by t c (plain_of h ss ts))
  rests-answer y e h q z gs =
      let d = by.rests y e h q z in
      record { state = d.state; answer = d.answer; grants = no_grants gs ∙ sym d.grants; few = omega arith }
