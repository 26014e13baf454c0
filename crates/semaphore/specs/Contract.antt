-- What every call owes: refusals by number with the very struct and the very words handed in, and else the outcome of document 01's step.
use Rattle.std.specs.Prelude.{ℕ, ◌≡◌, true, false, List, None, Some}
use Rattle.rules.specs.declared.Step.{Step}
use Rattle.rules.specs.Steps.{effect}
use Rattle.rules.specs.Refusals.{refusal}
use Rattle.state.specs.declared.BatchSemaphore.{BatchSemaphore}
use Rattle.state.specs.declared.Stepped.{Stepped}
use Rattle.state.specs.View.{Words, view_of, outcome_of}
use Rattle.broken.specs.Broken.{is_broken}
use Rattle.stepping.specs.Contract.{Refuses}

-- A step of a struct and its words, and what comes back: `w` and `gs` are the words of the state and of the grants before, `v` and `hs` after.
pub record Steps (s : BatchSemaphore) (w : Words) (gs : List ℕ) (a : Step) (r : Stepped) (v : Words) (hs : List ℕ) : Type 0 where
  -- what is broken is refused with 14
  pub broken : is_broken s w gs ≡ true → Refuses 14 s w gs r v hs
  -- else the first number that the step meets is given
  pub refused : is_broken s w gs ≡ false → (n : ℕ) → refusal a (view_of s w) ≡ Some n → Refuses n s w gs r v hs
  -- and where it meets none, answer, grants (their number too) and state are the rules' outcome of the step
  pub accepted : is_broken s w gs ≡ false → refusal a (view_of s w) ≡ None → outcome_of r v hs ≡ effect a (view_of s w)
  -- what comes back is broken only if what was handed in was
  pub unbroken : is_broken s w gs ≡ false → is_broken r.state v hs ≡ false
