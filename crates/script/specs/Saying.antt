-- What the readers of lines answer, as the rules see it.
use Rattle.std.specs.Prelude.{ℕ, min, drop, List, [], ◌∷◌, ◌++◌, Option, Some, option_map}
use Rattle.rules.specs.declared.TaskId.{TaskId}
use Rattle.rules.specs.declared.Slot.{Slot}
use Rattle.rules.specs.declared.Act.{Act}
use Rattle.rules.specs.declared.Act.TheVariants.{Acquire, AcquireBypassable, AcquireReserving, Upgrade, Poll, Try, TryUpgrade, Release, Drop, Close, Sleep, Finish}
use Rattle.rules.specs.declared.Step.{Step}
use Rattle.rules.specs.Text.{fields}
use Rattle.rules.specs.Script.{◌>>=◌, numbers_of, step_with}

-- the task and the slot that a number names: 255, which names none, stands for every larger number too
abbrev pub task_named : ℕ → TaskId
task_named n = record { 0 = min n 255 }

abbrev pub slot_named : ℕ → Slot
slot_named n = record { 0 = min n 255 }

-- a step with its actor and its slot so named
abbrev pub act_within : Act → Act
act_within (Acquire n) = Acquire n
act_within (AcquireBypassable n) = AcquireBypassable n
act_within (AcquireReserving least n) = AcquireReserving least n
act_within (Upgrade held wanted) = Upgrade held wanted
act_within (Poll x) = Poll (slot_named x.0)
act_within (Try n) = Try n
act_within (TryUpgrade held wanted) = TryUpgrade held wanted
act_within (Release n) = Release n
act_within (Drop x) = Drop (slot_named x.0)
act_within Close = Close
act_within Sleep = Sleep
act_within Finish = Finish

abbrev pub step_within : Step → Step
step_within a = record { actor = task_named a.actor.0; act = act_within a.act }

abbrev pub within : Option Step → Option Step
within o = option_map step_within o

-- an actor's step
abbrev pub acting_by : ℕ → Act → Option Step
acting_by t a = Some (record { actor = task_named t; act = a })

-- what a letter says with some numbers, and with some numbers and those that stand in a line from a place on
abbrev pub saying : ℕ → List ℕ → Option Step
saying letter ns = within (step_with (letter ∷ []) ns)

abbrev pub saying_on : ℕ → List ℕ → List ℕ → ℕ → Option Step
saying_on letter ns line at = within (numbers_of (fields (drop at line)) >>= λ ms. step_with (letter ∷ []) (ns ++ ms))
