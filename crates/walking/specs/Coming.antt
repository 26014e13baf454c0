-- What the lines of a script come to, by the rules and as answered.
use Rattle.std.specs.Prelude.{ℕ, ◌+◌, ◌≤◌, ◌<◌, ◌≡◌, true, false, cond, List, [], ◌∷◌, length, drop, Option, None, Some, is_none, option_map, unwrap_or, Result, Ok, Err}
use Rattle.rules.specs.declared.Step.{Step}
use Rattle.rules.specs.Sizes.{slot_count}
use Rattle.rules.specs.State.{State}
use Rattle.rules.specs.Fresh.{Start, fresh, refuses12}
use Rattle.rules.specs.Sound.{Sound}
use Rattle.rules.specs.Steps.{Outcome}
use Rattle.rules.specs.Runs.{step}
use Rattle.rules.specs.Text.{bytes, Line, lines}
use Rattle.rules.specs.Script.{start_of, step_of, said, end_line, outcome_text}
use Rattle.script.specs.declared.First.{First}
use Rattle.replies.specs.declared.Reply.TheVariants.{Done}
use Rattle.state.specs.declared.BatchSemaphore.{BatchSemaphore}
use Rattle.state.specs.View.{Words, view_of, outcome_of, ShapedAll, Fit}
use Rattle.reading.specs.Steps.{line_bytes}
use Rattle.reading.specs.Starts.{start_read, BadAt}
use Rattle.walking.specs.declared.Begun.{Begun}
use Rattle.walking.specs.declared.NotBegun.{NotBegun}
use Rattle.walking.specs.declared.NotBegun.TheVariants.{Refused, Bad, Nothing}
use Rattle.walking.specs.declared.Walked.{Walked}
use Rattle.walking.specs.declared.WalkedLent.{WalkedLent}

-- A LINE comes to the outcome of the step that it says, or to nothing: then it prints `bad`, and changes nothing.

abbrev pub comes_to : Option Step → State → Option Outcome
comes_to o s = option_map (λ (a : Step). step a s) o

abbrev pub after : Option Outcome → State → State
after None s = s
after (Some o) s = o.state

abbrev pub text_of : Option Outcome → List ℕ
text_of None = end_line (bytes "bad")
text_of (Some o) = outcome_text o

-- what was answered
abbrev pub came : Walked → Words → List ℕ → Option Outcome
came r w gs = cond r.bad None (Some (outcome_of r.out w gs))

-- what was answered to a line, or none, and the struct after it, as what the line came to
abbrev pub walked : WalkedLent → BatchSemaphore → Walked
walked r s =
    record {
      bad = is_none r.answer;
      out = record { reply = (unwrap_or r.answer (Done, 0)).0; count = (unwrap_or r.answer (Done, 0)).1; state = s };
      next = r.next;
    }

-- The line at a place of a script, on the state s: what was answered is what it comes to, and the state after it is such a state again.
pub record Comes (script : List ℕ) (at : ℕ) (s : State) (r : Walked) (w : Words) (gs : List ℕ) : Type 0 where
  pub line : Line
  pub shows : lines (drop at script) ≡ line ∷ lines (drop r.next script)
  pub comes : came r w gs ≡ comes_to (said step_of line) s
  pub state : view_of r.out.state w ≡ after (came r w gs) s
  pub fit : Fit r.out.state w gs
  pub few : r.out.count ≤ slot_count
  pub bytes : r.next ≡ at + line_bytes line
  pub on : at < r.next
  pub within : r.next ≤ length script

-- THE FIRST LINE begins a fresh state, or is refused by 12, or says nothing; or there is none.

-- with the start a
pub record BeginsFresh (a : Start) (s : BatchSemaphore) (w : Words) : Type 0 where
  pub accepted : refuses12 a ≡ false
  pub view : view_of s w ≡ fresh a
  pub shaped : ShapedAll s w
  pub sound : Sound (view_of s w)

abbrev pub StartsAs : Result Begun NotBegun → Start → ℕ → Words → Type 0
StartsAs (Ok r) a next w = (r.next ≡ next) × BeginsFresh a r.state w
StartsAs (Err Refused) a next w = refuses12 a ≡ true
StartsAs (Err Bad) a next w = ⊥
StartsAs (Err Nothing) a next w = ⊥

-- with the start that was read, its clocks in words
abbrev pub StartedBy : First → List ℕ → ℕ → Result Begun NotBegun → Words → Type 0
StartedBy first starts next r w = StartsAs r (start_read first starts) next w

pub record FreshAt (script : List ℕ) (r : Begun) (w : Words) : Type 0 where
  pub line : Line
  pub shows : lines script ≡ line ∷ lines (drop r.next script)
  pub start : Start
  pub says : said start_of line ≡ Some start
  pub begins : BeginsFresh start r.state w
  pub bytes : r.next ≡ line_bytes line
  pub within : r.next ≤ length script

pub record RefusedAt (script : List ℕ) : Type 0 where
  pub line : Line
  pub behind : List Line
  pub shows : lines script ≡ line ∷ behind
  pub start : Start
  pub says : said start_of line ≡ Some start
  pub refused : refuses12 start ≡ true
  pub some_bytes : 0 < length script

abbrev pub Begins : List ℕ → Result Begun NotBegun → Words → Type 0
Begins script (Ok r) w = FreshAt script r w
Begins script (Err Refused) w = RefusedAt script
Begins script (Err Bad) w = BadAt script
Begins script (Err Nothing) w = lines script ≡ []
