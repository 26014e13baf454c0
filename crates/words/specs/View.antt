-- What lent words stand for: requests in their slots, tasks, grants. And which words stand for something.
use Rattle.std.specs.Prelude.{ℕ, zero, suc, ◌+◌, ◌*◌, ◌<◌, ◌≡◌, Bool, true, false, not, cond, ◌&&◌, ◌||◌, List, [], ◌∷◌, eqb, leb, ltb, get_or, set, Option, None, option_map}
use Rattle.rules.specs.declared.Slot.{Slot}
use Rattle.rules.specs.declared.Grant.{Grant}
use Rattle.rules.specs.declared.Taker.{Taker}
use Rattle.rules.specs.declared.Taker.TheVariants.{BySlot, ByTry}
use Rattle.rules.specs.declared.Priority.{Priority}
use Rattle.rules.specs.declared.Priority.TheVariants.{Back, Bypassable, Front}
use Rattle.rules.specs.declared.TaskState.{TaskState}
use Rattle.rules.specs.declared.TaskState.TheVariants.{Runnable, Blocked, Sleeping, Finished}
use Rattle.rules.specs.Sizes.{slot_count}
use Rattle.splitting.specs.Plain.{Task as TaskRule, Request as RequestRule}
use Rattle.tables.specs.Table.{row, table}
use Rattle.records.specs.declared.Request.{Request}
use Rattle.records.specs.View.{seen}
use Rattle.words.specs.declared.GrantWords.{GrantWords}

-- Single words.

abbrev pub state_of : ℕ → TaskState
state_of zero = Runnable
state_of (suc zero) = Blocked
state_of (suc (suc zero)) = Sleeping
state_of (suc (suc (suc n))) = Finished

abbrev pub state_word : TaskState → ℕ
state_word Runnable = 0
state_word Blocked = 1
state_word Sleeping = 2
state_word Finished = 3

abbrev pub kind_of : ℕ → Priority
kind_of zero = Back
kind_of (suc zero) = Bypassable
kind_of (suc (suc n)) = Front

abbrev pub kind_word : Priority → ℕ
kind_word Back = 0
kind_word Bypassable = 1
kind_word Front = 2

abbrev pub marked : ℕ → Bool
marked w = not (eqb w 0)

abbrev pub mark_word : Bool → ℕ
mark_word true = 1
mark_word false = 0

-- a word that some case has
abbrev pub is_state : ℕ → Bool
is_state w = leb w 3

abbrev pub is_kind : ℕ → Bool
is_kind w = leb w 2

abbrev pub is_mark : ℕ → Bool
is_mark w = leb w 1

-- A request in its slot: used, asked, least, kind, reserving, task, queued, holding, completed, polled.

abbrev pub request_words : ℕ
request_words = 10

unfoldable pub decoded : List ℕ → Request
decoded w =
    record {
      used = marked (get_or w 0 0);
      ask = record { asked = get_or w 1 0; least = get_or w 2 0; kind = kind_of (get_or w 3 0); reserving = marked (get_or w 4 0) };
      task = get_or w 5 0;
      queued = marked (get_or w 6 0);
      holding = marked (get_or w 7 0);
      completed = marked (get_or w 8 0);
      polled = marked (get_or w 9 0);
    }

unfoldable pub encoded : Request → List ℕ
encoded r =
    mark_word r.used
    ∷ r.ask.asked
    ∷ r.ask.least
    ∷ kind_word r.ask.kind
    ∷ mark_word r.ask.reserving
    ∷ r.task
    ∷ mark_word r.queued
    ∷ mark_word r.holding
    ∷ mark_word r.completed
    ∷ mark_word r.polled
    ∷ []

abbrev pub slot_in : List ℕ → ℕ → Option RequestRule
slot_in w k = seen (decoded (row request_words w k))

unfoldable pub slots_of : List ℕ → List (Option RequestRule)
slots_of w = table (slot_in w) 0 slot_count

-- one request changed, the others as they were; where the slot is free, nothing
abbrev pub altered : Slot → (RequestRule → RequestRule) → List (Option RequestRule) → List (Option RequestRule)
altered x f l = set l x.0 (option_map f (get_or l x.0 None))

-- the words of a slot: in use or not, and in use each of them one that some case has
unfoldable pub row_stands : List ℕ → Bool
row_stands w =
    is_mark (get_or w 0 0)
    && (not (marked (get_or w 0 0)) || (is_kind (get_or w 3 0) && is_mark (get_or w 4 0) && is_mark (get_or w 6 0) && is_mark (get_or w 7 0) && is_mark (get_or w 8 0) && is_mark (get_or w 9 0)))

abbrev pub SlotsStand : List ℕ → Type 0
SlotsStand w = (k : ℕ) → row_stands (row request_words w k) ≡ true

-- slots after a change that leaves words that stand for something
pub record SlotsShow (after before : List ℕ) (l : List (Option RequestRule)) : Type 0 where
  pub view : slots_of after ≡ l
  pub stand : SlotsStand before → SlotsStand after

-- A task: state and woken mark.

abbrev pub task_words : ℕ
task_words = 2

abbrev pub task_in : List ℕ → ℕ → TaskRule
task_in w t = record { state = state_of (get_or w (2 * t) 0); woken = marked (get_or w (2 * t + 1) 0) }

unfoldable pub tasks_of : ℕ → List ℕ → List TaskRule
tasks_of n w = table (task_in w) 0 n

abbrev pub task_stands : List ℕ → ℕ → Bool
task_stands w t = is_state (get_or w (2 * t) 0) && is_mark (get_or w (2 * t + 1) 0)

abbrev pub TasksStand : ℕ → List ℕ → Type 0
TasksStand n w = (t : ℕ) → t < n → task_stands w t ≡ true

pub record TasksShow (n : ℕ) (after before : List ℕ) (l : List TaskRule) : Type 0 where
  pub view : tasks_of n after ≡ l
  pub stand : TasksStand n before → TasksStand n after

-- A grant: who took (a slot below 256, else a try), how many, and the task that joins.

unfoldable pub taker_of : ℕ → Taker
taker_of x = cond (ltb x 256) (BySlot (record { 0 = x })) ByTry

abbrev pub grant_of : GrantWords → Grant
grant_of g = record { taker = taker_of g.taker; count = g.count; task = record { 0 = g.task } }

abbrev pub grant_words_in : List ℕ → ℕ → GrantWords
grant_words_in w i = record { taker = get_or w (3 * i) 0; count = get_or w (3 * i + 1) 0; task = get_or w (3 * i + 2) 0 }

-- So many grants, and no more: their number is the list's.
unfoldable pub grants_of : ℕ → List ℕ → List Grant
grants_of n w = table (λ (i : ℕ). grant_of (grant_words_in w i)) 0 n
