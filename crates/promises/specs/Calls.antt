-- Calls one after another, told by their contracts alone: how a call comes to its result is no part of it.
use Rattle.std.specs.Prelude.{ℕ, ◌*◌, ◌≡◌, false, Ok, List, [], ◌∷◌, map, length}
use Rattle.rules.specs.declared.Step.{Step}
use Rattle.rules.specs.Sizes.{slot_count}
use Rattle.rules.specs.State.{State}
use Rattle.rules.specs.Fresh.{Start}
use Rattle.rules.specs.Runs.{Said, start}
use Rattle.replies.specs.Answers.{answer_of}
use Rattle.words.specs.View.{grants_of}
use Rattle.state.specs.declared.BatchSemaphore.{BatchSemaphore}
use Rattle.state.specs.declared.Stepped.{Stepped}
use Rattle.state.specs.View.{Words, view_of}
use Rattle.broken.specs.Broken.{is_broken}
use Rattle.fresh.specs.Starting.{Gives}
use Rattle.semaphore.specs.Contract.{Steps}

-- what is held between two calls: the struct, and the words of the state
pub record Held : Type 0 where
  pub struct : BatchSemaphore
  pub words : Words

abbrev pub state_of : Held → State
state_of h = view_of h.struct h.words

-- words of the number that a call's grants have room in
abbrev pub IsRoom : List ℕ → Type 0
IsRoom gs = length gs ≡ slot_count * 3

-- what 14 does not refuse, wherever the grants are put
abbrev pub Unbroken : Held → Type 0
Unbroken h = (room : List ℕ) → IsRoom room → is_broken h.struct h.words room ≡ false

-- an accepted fresh struct with its words, by `new` or by `const_new`: their contract, of an Ok
abbrev pub Begins : Start → BatchSemaphore → Words → Type 0
Begins a s w = Gives (Ok s) w (start a)

-- a step that was asked for, the words lent for its grants, and what came back
pub record Call : Type 0 where
  pub step : Step
  pub room : List ℕ
  pub result : Stepped
  pub words : Words
  pub grants : List ℕ

abbrev pub after : Call → Held
after c = record { struct = c.result.state; words = c.words }

-- Each meets its call's contract, and is made on what the one before it left.
unfoldable pub Calls : Held → List Call → Type 0
Calls h [] = Unit {0}
Calls h (c ∷ cs) =
    IsRoom c.room × Steps h.struct h.words c.room c.step c.result c.words c.grants × Calls (after c) cs

-- what the last of them left
unfoldable pub left : Held → List Call → Held
left h [] = h
left h (c ∷ cs) = left (after c) cs

abbrev pub steps_of : List Call → List Step
steps_of cs = map (λ (c : Call). c.step) cs

-- what the calls said, in document 01's words and numbers
abbrev pub said_by : List Call → List Said
said_by cs = map (λ (c : Call). record { answer = answer_of c.result.reply; grants = grants_of c.result.count c.grants }) cs
