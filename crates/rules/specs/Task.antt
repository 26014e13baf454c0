-- Document 01, "State": a task is Runnable, Blocked, Sleeping or Finished, with a woken mark and a clock.
use Rattle.std.specs.Prelude.{Bool, true, false, cond}
use Rattle.rules.specs.declared.TaskId.{TaskId}
use Rattle.rules.specs.declared.TaskState.{TaskState}
use Rattle.rules.specs.declared.TaskState.TheVariants.{Runnable, Blocked, Sleeping, Finished}
use Rattle.rules.specs.Sizes.{width}
use Rattle.rules.specs.Clock.{Clock, join, tick, empty}

pub record Task : Type 0 where
  pub state : TaskState
  pub woken : Bool
  pub clock : Clock

-- what stands where no task does
abbrev pub no_task : Task
no_task = record { state = Runnable; woken = false; clock = empty width }

abbrev pub is_runnable : TaskState → Bool
is_runnable Runnable = true
is_runnable Blocked = false
is_runnable Sleeping = false
is_runnable Finished = false

abbrev pub is_finished : TaskState → Bool
is_finished Runnable = false
is_finished Blocked = false
is_finished Sleeping = false
is_finished Finished = true

abbrev pub blocked : Task → Task
blocked a = record { state = Blocked; woken = a.woken; clock = a.clock }

-- unblocking makes a task Runnable
abbrev pub unblocked : Task → Task
unblocked a = record { state = Runnable; woken = a.woken; clock = a.clock }

abbrev pub roused : TaskState → TaskState
roused Runnable = Runnable
roused Blocked = Blocked
roused Sleeping = Runnable
roused Finished = Finished

-- waking sets the mark and unblocks a Sleeping task
abbrev pub wakened : Task → Task
wakened a = record { state = roused a.state; woken = true; clock = a.clock }

-- sleep: Sleeping unless woken; the mark is cleared
abbrev pub slept : Task → Task
slept a = record { state = cond a.woken a.state Sleeping; woken = false; clock = a.clock }

-- finish: Finished
abbrev pub finished : Task → Task
finished a = record { state = Finished; woken = a.woken; clock = a.clock }

-- the task numbered t ticks its own entry
abbrev pub ticked : TaskId → Task → Task
ticked t a = record { state = a.state; woken = a.woken; clock = tick t.0 a.clock }

-- the task joins a clock
abbrev pub joined : Clock → Task → Task
joined c a = record { state = a.state; woken = a.woken; clock = join a.clock c }
