-- Document 01's word and number for each reply.
use Rattle.std.specs.Prelude.{ℕ, Option, None, Some, Result, Ok, Err}
use Rattle.rules.specs.Steps.{Answer}
use Rattle.rules.specs.Steps.Answer.{done, granted, pending, closed, none_left, made, refused}
use Rattle.replies.specs.declared.Refusal.{Refusal}
use Rattle.replies.specs.declared.Refusal.TheVariants.{NoSuchTask, NotRunnable, NoSuchRequest, Completed, AsksNothing, StrictlyFair, BadCounts, NoFreeSlot, NoRoom, TooMany, LastTick, Broken}
use Rattle.replies.specs.declared.Reply.{Reply}
use Rattle.replies.specs.declared.Reply.TheVariants.{Done, Granted, Pending, Closed, NoPermits, Made, Refused}

-- the numbers of document 01's table
abbrev pub number_of : Refusal → ℕ
number_of NoSuchTask = 1
number_of NotRunnable = 2
number_of NoSuchRequest = 3
number_of Completed = 4
number_of AsksNothing = 5
number_of StrictlyFair = 6
number_of BadCounts = 7
number_of NoFreeSlot = 8
number_of NoRoom = 9
number_of TooMany = 10
number_of LastTick = 11
number_of Broken = 14

-- the number that is given, if one is
abbrev pub given : Result (Unit {0}) Refusal → Option ℕ
given (Ok u) = None
given (Err r) = Some (number_of r)

-- document 01's answers: `done`, `granted`, `pending`, `closed`, `none`, `s` and slot, `r` and refusal
abbrev pub answer_of : Reply → Answer
answer_of Done = done
answer_of Granted = granted
answer_of Pending = pending
answer_of Closed = closed
answer_of NoPermits = none_left
answer_of (Made x) = made x
answer_of (Refused r) = refused (number_of r)
