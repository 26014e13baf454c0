-- What the small struct and all lent words stand for: a state of the rules.
use Rattle.std.specs.Prelude.{ℕ, ◌*◌, ◌≡◌, List, length}
use Rattle.rules.specs.declared.Slot.{Slot}
use Rattle.rules.specs.Sizes.{width, max_tasks, slot_count}
use Rattle.rules.specs.State.{State, in_use, request_at}
use Rattle.rules.specs.Steps.{Outcome}
use Rattle.rules.specs.Sound.{Sound}
use Rattle.splitting.specs.Plain.{Plain}
use Rattle.splitting.specs.Kept.{Kept, times_kept}
use Rattle.splitting.specs.Split.{whole, forget_request}
use Rattle.replies.specs.Answers.{answer_of}
use Rattle.records.specs.declared.Request.{Request}
use Rattle.records.specs.View.{request_of}
use Rattle.words.specs.View.{grants_of}
use Rattle.head.specs.View.{plain_of, Shaped}
use Rattle.batches.specs.View.{Lent, WellFormed}
use Rattle.times.specs.View.{kept_of}
use Rattle.state.specs.declared.BatchSemaphore.{BatchSemaphore}
use Rattle.state.specs.declared.LentWords.{LentWords}
use Rattle.state.specs.declared.ReadWords.{ReadWords}
use Rattle.state.specs.declared.Stepped.{Stepped}

-- all words of the state that the caller lends
pub record Words : Type 0 where
  -- 32 requests without clocks, and 16 tasks without clocks
  pub slots : List ℕ
  pub tasks : List ℕ
  -- the sizes of 64 batches, and their clocks
  pub sizes : List ℕ
  pub rows : List ℕ
  -- the clock of the last taking
  pub last : List ℕ
  -- the clocks of 32 requests, of their makers; and of 16 tasks
  pub makers : List ℕ
  pub clocks : List ℕ

abbrev pub words : List ℕ → List ℕ → List ℕ → List ℕ → List ℕ → List ℕ → List ℕ → Words
words slots tasks sizes rows last makers clocks =
    record { slots = slots; tasks = tasks; sizes = sizes; rows = rows; last = last; makers = makers; clocks = clocks }

-- what stands in those that are lent; the grants' are no part of the state
abbrev pub words_of : LentWords → Words
words_of w = words w.slots.now w.tasks.now w.sizes.now w.rows.now w.last.now w.makers.now w.clocks.now

-- the same of words that are lent to be read
abbrev pub words_read : ReadWords → Words
words_read w = words w.slots.now w.tasks.now w.sizes.now w.rows.now w.last.now w.makers.now w.clocks.now

-- the very arrays are lent that were
pub record SameWords (w v : LentWords) : Type 0 where
  pub slots : v.slots.ghost_name ≡ w.slots.ghost_name
  pub tasks : v.tasks.ghost_name ≡ w.tasks.ghost_name
  pub sizes : v.sizes.ghost_name ≡ w.sizes.ghost_name
  pub rows : v.rows.ghost_name ≡ w.rows.ghost_name
  pub last : v.last.ghost_name ≡ w.last.ghost_name
  pub makers : v.makers.ghost_name ≡ w.makers.ghost_name
  pub clocks : v.clocks.ghost_name ≡ w.clocks.ghost_name
  pub grants : v.grants.ghost_name ≡ w.grants.ghost_name

-- who, and when
abbrev pub plain_in : BatchSemaphore → Words → Plain
plain_in s w = plain_of s.head w.slots w.tasks

abbrev pub kept_in : BatchSemaphore → Words → Kept
kept_in s w = kept_of s.batches w.sizes w.rows w.last w.makers w.clocks

abbrev pub view_of : BatchSemaphore → Words → State
view_of s w = whole (plain_in s w) (times_kept (plain_in s w) (kept_in s w))

-- counts within the arrays, arrays of their sizes, and words in use that stand for something
pub record ShapedAll (s : BatchSemaphore) (w : Words) : Type 0 where
  pub head : Shaped s.head w.slots w.tasks
  pub formed : WellFormed s.batches
  pub ring : Lent w.sizes w.rows
  pub latest : length w.last ≡ width
  pub makers : length w.makers ≡ slot_count * width
  pub clocks : length w.clocks ≡ max_tasks * width

-- what every step may count on, and gives back: shaped so, room for the grants, and a sound state
pub record Fit (s : BatchSemaphore) (w : Words) (gs : List ℕ) : Type 0 where
  pub shaped : ShapedAll s w
  pub grants : length gs ≡ slot_count * 3
  pub sound : Sound (view_of s w)

-- what a step gave, with its grants in their words
abbrev pub outcome_of : Stepped → Words → List ℕ → Outcome
outcome_of r w gs = record { answer = answer_of r.reply; grants = grants_of r.count gs; state = view_of r.state w }

-- what is read at a slot
pub record RequestRead (r : Request) (x : Slot) (a : State) : Type 0 where
  pub used : r.used ≡ in_use x a
  pub request : request_of r ≡ forget_request (request_at x a)
