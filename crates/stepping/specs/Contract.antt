-- What every call owes: refusals by number with the very struct and the very words handed in, and else the outcome of document 01's step.
use Rattle.std.specs.Prelude.{ℕ, ◌≤◌, ◌≡◌, List, Option, None, Some, Result}
use Rattle.rules.specs.declared.TaskId.{TaskId}
use Rattle.rules.specs.declared.Step.{Step}
use Rattle.rules.specs.Sizes.{slot_count}
use Rattle.rules.specs.Steps.{effect}
use Rattle.rules.specs.Steps.Answer.{refused}
use Rattle.rules.specs.Refusals.{first, refusal}
use Rattle.splitting.specs.Parts.{or_else}
use Rattle.replies.specs.declared.Refusal.{Refusal}
use Rattle.replies.specs.declared.Reply.{Reply}
use Rattle.replies.specs.Answers.{given, answer_of}
use Rattle.planning.specs.declared.Plan.{Plan}
use Rattle.planning.specs.Plans.{actor_grounds, Planned}
use Rattle.times.specs.View.{refusal_kept, RestsInTimes}
use Rattle.state.specs.declared.BatchSemaphore.{BatchSemaphore}
use Rattle.state.specs.declared.Stepped.{Stepped}
use Rattle.state.specs.View.{Words, plain_in, kept_in, view_of, outcome_of, Fit}

-- A refusal returns its number, no grants, and the state exactly as it came in; the words of the grants stay as they were, too.
pub record Refuses (n : ℕ) (s : BatchSemaphore) (w : Words) (gs : List ℕ) (r : Stepped) (v : Words) (hs : List ℕ) : Type 0 where
  pub answer : answer_of r.reply ≡ refused n
  pub count : r.count ≡ 0
  pub state : r.state ≡ s
  pub words : v ≡ w
  pub grants : hs ≡ gs

-- A step that counts on what 14 does not refuse, and gives such a state back. `w` and `gs` are the words of the state and of the grants
-- before, `v` and `hs` after.
pub record StepsOn (s : BatchSemaphore) (w : Words) (gs : List ℕ) (a : Step) (r : Stepped) (v : Words) (hs : List ℕ) : Type 0 where
  -- the first number that the step meets is given
  pub refused : (n : ℕ) → refusal a (view_of s w) ≡ Some n → Refuses n s w gs r v hs
  -- and where it meets none, answer, grants (their number too) and state are the rules' outcome of the step
  pub accepted : refusal a (view_of s w) ≡ None → outcome_of r v hs ≡ effect a (view_of s w)
  pub fit : Fit r.state v hs
  pub few : r.count ≤ slot_count

-- a step to be taken: it was planned, and no refusal is met by it, on a fit state
pub record Due (s : BatchSemaphore) (w : Words) (gs : List ℕ) (a : Step) (l : Plan) : Type 0 where
  pub fit : Fit s w gs
  pub planned : Planned l a.act (plain_in s w)
  pub unrefused : refusal a (view_of s w) ≡ None

-- of a step that was not refused
pub record Taken (s : BatchSemaphore) (w : Words) (a : Step) (r : Stepped) (v : Words) (hs : List ℕ) : Type 0 where
  pub outcome : outcome_of r v hs ≡ effect a (view_of s w)
  pub fit : Fit r.state v hs
  pub few : r.count ≤ slot_count

-- what is left to do of a step at rest, once who's part is done: the struct as it came in, no grants, and when's part
pub record RestTaken (s : BatchSemaphore) (a : Step) (y : Reply) (r : Stepped) (last makers clocks makers₀ clocks₀ : List ℕ) : Type 0 where
  pub stepped : r ≡ record { reply = y; count = 0; state = s }
  pub times : RestsInTimes a (answer_of y) last makers clocks makers₀ clocks₀

-- the actor's refusals, then those planned, then those of when
abbrev pub checked_as : BatchSemaphore → Words → TaskId → Plan → Option ℕ
checked_as s w t p =
    or_else (first (actor_grounds t (plain_in s w)))
    (or_else (given p.check) (refusal_kept t (record { stock = s.head.stock; back = p.back; ticks = p.ticks }) (kept_in s w)))

-- a check, for whatever stands in the words that it is not lent
abbrev pub Checks : Result (Unit {0}) Refusal → BatchSemaphore → List ℕ → List ℕ → TaskId → Plan → Type 0
Checks r s ts cs t p = (w : Words) → w.tasks ≡ ts → w.clocks ≡ cs → given r ≡ checked_as s w t p
