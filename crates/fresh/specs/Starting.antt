-- What a start answers and what it leaves.
use Rattle.std.specs.Prelude.{ℕ, ◌*◌, ◌≡◌, Bool, not, ◌||◌, List, [], ltb, eqb, length, get_or, take, replicate, Option, None, Result, Ok, Err}
use Rattle.rules.specs.declared.Fairness.{Fairness}
use Rattle.rules.specs.Sizes.{max_tasks, slot_count, width}
use Rattle.rules.specs.Clock.{Clock, empty}
use Rattle.rules.specs.State.{Batch}
use Rattle.rules.specs.Steps.{Answer, Outcome}
use Rattle.rules.specs.Steps.Answer.{done, refused}
use Rattle.splitting.specs.Plain.{Plain, no_task}
use Rattle.tables.specs.Table.{row}
use Rattle.queue.specs.View.{Holds}
use Rattle.words.specs.View.{request_words, task_words}
use Rattle.head.specs.declared.Head.{Head}
use Rattle.batches.specs.declared.Batches.{Batches}
use Rattle.batches.specs.View.{Lent, WellFormed, stands_in}
use Rattle.times.specs.View.{clocks_at}
use Rattle.state.specs.View.{Words, view_of, ShapedAll}
use Rattle.state.specs.declared.BatchSemaphore.{BatchSemaphore}
use Rattle.fresh.specs.declared.Refused.{Refused}

-- refusal 12, but for the maker: tasks 0 or above 16, or a clock list that is not tasks times tasks long
abbrev pub bad_sizes : ℕ → ℕ → Bool
bad_sizes tasks entries = eqb tasks 0 || ltb max_tasks tasks || not (eqb entries (tasks * tasks))

-- as many words as before, and all are 0
pub record Cleared (after before : List ℕ) : Type 0 where
  pub sized : length after ≡ length before
  pub zeros : (i : ℕ) → get_or after i 0 ≡ 0

-- who, at the start: nobody waits, no slot is in use, n tasks are Runnable and unwoken
unfoldable pub idle : Fairness → Bool → ℕ → ℕ → Plain
idle f closed stock n =
    record {
      fairness = f;
      closed = closed;
      stock = stock;
      queue = [];
      reservation = None;
      tasks = replicate n no_task;
      slots = replicate slot_count None;
    }

pub record Idle (h : Head) (f : Fairness) (b : Bool) (k n : ℕ) : Type 0 where
  pub fairness : h.fairness ≡ f
  pub closed : h.closed ≡ b
  pub stock : h.stock ≡ k
  pub tasks : h.tasks ≡ n
  pub waiters : Holds h.waiters []
  pub reservation : h.reservation ≡ None

-- as many words of clocks as before, of which the first n clocks are these
pub record Heard (after before : List ℕ) (n : ℕ) (cs : List Clock) : Type 0 where
  pub sized : length after ≡ length before
  pub first : take n (clocks_at max_tasks after) ≡ cs

-- when, at the start: the clocks of n tasks, these batches, and no taking yet
pub record Begins (b : Batches) (ss rs l hs : List ℕ) (n : ℕ) (cs : List Clock) (o : Option (List Batch)) : Type 0 where
  pub formed : WellFormed b
  pub ring : Lent ss rs
  pub last : length l ≡ width
  pub clocks : length hs ≡ max_tasks * width
  pub heard : take n (clocks_at max_tasks hs) ≡ cs
  pub stands : stands_in b ss rs ≡ o
  pub latest : row width l 0 ≡ empty width

-- words of their lengths
pub record Sized (w : Words) : Type 0 where
  pub slots : length w.slots ≡ slot_count * request_words
  pub tasks : length w.tasks ≡ max_tasks * task_words
  pub ring : Lent w.sizes w.rows
  pub last : length w.last ≡ width
  pub makers : length w.makers ≡ slot_count * width
  pub clocks : length w.clocks ≡ max_tasks * width

-- done, or 12
abbrev pub answer_of : Result BatchSemaphore Refused → Answer
answer_of (Ok s) = done
answer_of (Err e) = refused 12

-- the state that came out: a refusal gives one back, too
abbrev pub state_out : Result BatchSemaphore Refused → BatchSemaphore
state_out (Ok s) = s
state_out (Err e) = e.state

-- what came out is the rules' outcome: its answer and its state, in a struct and words of their shape
pub record Gives (r : Result BatchSemaphore Refused) (w : Words) (o : Outcome) : Type 0 where
  pub answer : answer_of r ≡ o.answer
  pub view : view_of (state_out r) w ≡ o.state
  pub shaped : ShapedAll (state_out r) w
