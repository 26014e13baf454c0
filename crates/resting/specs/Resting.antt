-- What is said of a step that leaves the head as it is, or that is not done yet. Words before: `ss`, `ts`; after: `ss'`, `ts'`.
use Rattle.std.specs.Prelude.{ℕ, ◌<◌, ◌≡◌, List, [], Option, None, Some, is_none, get_or, set}
use Rattle.rules.specs.declared.TaskId.{TaskId}
use Rattle.rules.specs.declared.Slot.{Slot}
use Rattle.rules.specs.declared.Ask.{Ask}
use Rattle.rules.specs.Sizes.{slot_count}
use Rattle.splitting.specs.Plain.{no_task}
use Rattle.splitting.specs.Who.{Outcome}
use Rattle.replies.specs.declared.Reply.{Reply}
use Rattle.replies.specs.declared.Reply.TheVariants.{Done}
use Rattle.replies.specs.Answers.{answer_of}
use Rattle.records.specs.declared.Marking.{Marking}
use Rattle.records.specs.declared.Task.{Task}
use Rattle.records.specs.View.{marking, task_seen}
use Rattle.words.specs.View.{slots_of, tasks_of, altered, SlotsShow, TasksShow}
use Rattle.head.specs.declared.Head.{Head}
use Rattle.head.specs.View.{plain_of, Shaped, Shows}
use Rattle.choosing.specs.declared.Choice.{Choice}
use Rattle.choosing.specs.declared.Choice.TheVariants.{Makes}
use Rattle.choosing.specs.Choice.{effect_by, moves_in}

-- the very head shows the state after, and there are no grants
pub record Rested (y : Reply) (h : Head) (ss ts : List ℕ) (o : Outcome) : Type 0 where
  pub state : Shows h ss ts o.state
  pub answer : answer_of y ≡ o.answer
  pub grants : o.grants ≡ []

-- the step of a choice: which it is, what is left as it was, and what is done, for whatever head of n tasks
pub record RestsBy (t : TaskId) (c : Choice) (n : ℕ) (r : Option Reply) (ss' ts' ss ts : List ℕ) : Type 0 where
  pub moves : is_none r ≡ moves_in c
  pub still : r ≡ None → (ss' ≡ ss) × (ts' ≡ ts)
  pub rests : (y : Reply) → r ≡ Some y → (h : Head) → h.tasks ≡ n → Shaped h ss ts → Rested y h ss' ts' (effect_by t c (plain_of h ss ts))

-- the same on the slots, whatever the tasks
pub record SlotsRest (t : TaskId) (c : Choice) (r : Option Reply) (ss' ss : List ℕ) : Type 0 where
  pub moves : is_none r ≡ moves_in c
  pub still : r ≡ None → ss' ≡ ss
  pub rests : (y : Reply) → r ≡ Some y → (h : Head) (ts : List ℕ) → Shaped h ss ts → Rested y h ss' ts (effect_by t c (plain_of h ss ts))

-- marks that are changed, and a reply
pub record MarksRest (x : Slot) (m : Marking) (y : Reply) (r : Option Reply) (ss' ss : List ℕ) : Type 0 where
  pub reply : r ≡ Some y
  pub slots : SlotsShow ss' ss (altered x (marking m) (slots_of ss))

-- and on the tasks, whatever the slots
pub record TasksRest (t : TaskId) (c : Choice) (n : ℕ) (r : Option Reply) (ts' ts : List ℕ) : Type 0 where
  pub moves : is_none r ≡ moves_in c
  pub still : r ≡ None → ts' ≡ ts
  pub rests : (y : Reply) → r ≡ Some y → (h : Head) (ss : List ℕ) → h.tasks ≡ n → Shaped h ss ts → Rested y h ss ts' (effect_by t c (plain_of h ss ts))

-- the task's own record is changed to one that f may make of it
pub record Alters (f : Task → Task → Type 0) (t : TaskId) (n : ℕ) (r : Option Reply) (ts' ts : List ℕ) : Type 0 where
  pub reply : r ≡ Some Done
  pub before : Task
  pub after : Task
  pub read : task_seen before ≡ get_or (tasks_of n ts) t.0 no_task
  pub made : f before after
  pub written : TasksShow n ts' ts (set (tasks_of n ts) t.0 (task_seen after))

-- where a request is made, it has a slot
abbrev pub HasSlot : Choice → Type 0
HasSlot c = (i : ℕ) (a : Ask) → c ≡ Makes i a → i < slot_count
