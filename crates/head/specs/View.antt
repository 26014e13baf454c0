-- What a head by value and the lent words of slots and tasks stand for: a state without clocks. Places not in use are no part of it.
use Rattle.std.specs.Prelude.{ℕ, ◌*◌, ◌≤◌, ◌≡◌, List, length}
use Rattle.rules.specs.Sizes.{max_tasks, slot_count}
use Rattle.splitting.specs.Plain.{Plain}
use Rattle.splitting.specs.Who.{Granting as GrantingRule, Outcome}
use Rattle.replies.specs.Answers.{answer_of}
use Rattle.queue.specs.View.{waiters_of}
use Rattle.words.specs.View.{request_words, task_words, slots_of, tasks_of, grants_of, SlotsStand, TasksStand}
use Rattle.head.specs.declared.Head.{Head}
use Rattle.head.specs.declared.Granting.{Granting}
use Rattle.head.specs.declared.Answered.{Answered}

abbrev pub plain_of : Head → List ℕ → List ℕ → Plain
plain_of h slots tasks =
    record {
      fairness = h.fairness;
      closed = h.closed;
      stock = h.stock;
      queue = waiters_of h.waiters;
      reservation = h.reservation;
      tasks = tasks_of h.tasks tasks;
      slots = slots_of slots;
    }

-- counts within the arrays, arrays of their sizes, and words in use that stand for something
pub record Shaped (h : Head) (ss ts : List ℕ) : Type 0 where
  pub tasks : h.tasks ≤ max_tasks
  pub waiters : h.waiters.len ≤ slot_count
  pub slot-words : length ss ≡ slot_count * request_words
  pub task-words : length ts ≡ max_tasks * task_words
  pub slots-stand : SlotsStand ss
  pub tasks-stand : TasksStand h.tasks ts

-- a head and words of their shape that stand for a state
pub record Shows (h : Head) (ss ts : List ℕ) (a : Plain) : Type 0 where
  pub shaped : Shaped h ss ts
  pub view : plain_of h ss ts ≡ a

-- and with the grants made on the way to it, in order
pub record Grants (r : Granting) (ss ts gs : List ℕ) (g : GrantingRule) : Type 0 where
  pub state : Shows r.head ss ts g.state
  pub grants : grants_of r.count gs ≡ g.grants
  pub few : r.count ≤ slot_count

-- and with the answer
pub record Answers (r : Answered) (ss ts gs : List ℕ) (o : Outcome) : Type 0 where
  pub state : Shows r.head ss ts o.state
  pub answer : answer_of r.reply ≡ o.answer
  pub grants : grants_of r.count gs ≡ o.grants
  pub few : r.count ≤ slot_count
