-- Document 01's words and numbers tell apart what the code replies: no two refusals, checks or replies stand for the same.
use Rattle.std.specs.Prelude.{Option, None, Some, Result, Ok, Err}
use Prim.Native.Nat.{ℕ}
use mathlib.Core.Path.{◌≡◌, refl, sym, ap, ◌∙◌}
use mathlib.Core.Bool.{cond}
use lib.Dec.{eqb}
use Rattle.rules.specs.Steps.{Answer}
use Rattle.rules.specs.Steps.Answer.{done, granted, pending, closed, none_left, made, refused}
use Rattle.replies.specs.declared.Refusal.{Refusal}
use Rattle.replies.specs.declared.Refusal.TheVariants.{NoSuchTask, NotRunnable, NoSuchRequest, Completed, AsksNothing, StrictlyFair, BadCounts, NoFreeSlot, NoRoom, TooMany, LastTick, Broken}
use Rattle.replies.specs.declared.Reply.{Reply}
use Rattle.replies.specs.declared.Reply.TheVariants.{Done, Granted, Pending, Closed, NoPermits, Made, Refused}
use Rattle.replies.specs.Answers.{number_of, given, answer_of}

-- a map with a way back tells its arguments apart
pub apart : {A B : Type 0} (f : A → B) (g : B → A) → ((a : A) → g (f a) ≡ a) → (a b : A) → f a ≡ f b → a ≡ b
apart f g h a b e = sym (h a) ∙ ap g e ∙ h b

-- the refusal of a number
abbrev pub named : ℕ → Refusal
named n =
    cond (eqb n 1) NoSuchTask
    (cond (eqb n 2) NotRunnable
    (cond (eqb n 3) NoSuchRequest
    (cond (eqb n 4) Completed
    (cond (eqb n 5) AsksNothing
    (cond (eqb n 6) StrictlyFair
    (cond (eqb n 7) BadCounts
    (cond (eqb n 8) NoFreeSlot
    (cond (eqb n 9) NoRoom
    (cond (eqb n 10) TooMany
    (cond (eqb n 11) LastTick
    Broken))))))))))

pub named-number : (r : Refusal) → named (number_of r) ≡ r
named-number NoSuchTask = refl
named-number NotRunnable = refl
named-number NoSuchRequest = refl
named-number Completed = refl
named-number AsksNothing = refl
named-number StrictlyFair = refl
named-number BadCounts = refl
named-number NoFreeSlot = refl
named-number NoRoom = refl
named-number TooMany = refl
named-number LastTick = refl
named-number Broken = refl

-- the check that gives a number
abbrev checked : Option ℕ → Result (Unit {0}) Refusal
checked None = Ok (record {})
checked (Some n) = Err (named n)

pub same_check : (c d : Result (Unit {0}) Refusal) → given c ≡ given d → c ≡ d
same_check = apart given checked back
  where
    back : (c : Result (Unit {0}) Refusal) → checked (given c) ≡ c
    back (Ok u) = refl
    back (Err r) = ap Err (named-number r)

-- the reply of an answer
abbrev replied : Answer → Reply
replied done = Done
replied granted = Granted
replied pending = Pending
replied closed = Closed
replied none_left = NoPermits
replied (made x) = Made x
replied (refused n) = Refused (named n)

pub same-reply : (r q : Reply) → answer_of r ≡ answer_of q → r ≡ q
same-reply = apart answer_of replied back
  where
    back : (r : Reply) → replied (answer_of r) ≡ r
    back Done = refl
    back Granted = refl
    back Pending = refl
    back Closed = refl
    back NoPermits = refl
    back (Made x) = refl
    back (Refused r) = ap Refused (named-number r)
