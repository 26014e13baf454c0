-- The words of a semaphore, of a struct that has them by value.
use Rattle.rules.specs.declared.Step.{Step}
use Rattle.state.specs.declared.BatchSemaphore.{BatchSemaphore}
use Rattle.state.specs.View.{Words, words}
use Rattle.semaphore.specs.Contract.{Steps}
use Rattle.arrays.specs.declared.Arrays.{Arrays}
use Rattle.arrays.specs.declared.Came.{Came}

abbrev pub words_in : Arrays → Words
words_in w = words w.slots w.tasks w.sizes w.rows w.last w.makers w.clocks

-- what every call owes, by value
abbrev pub Owes : BatchSemaphore → Arrays → Step → Came → Type 0
Owes s w a r = Steps s (words_in w) w.grants a r.stepped (words_in r.arrays) r.arrays.grants
