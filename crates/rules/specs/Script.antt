-- Document 01, "The script program", with starting clocks as document 02 (No. 2) has them: what `semtrace` prints for a script.
use Rattle.std.specs.Prelude.{ℕ, ◌*◌, Bool, true, false, cond, List, [], ◌∷◌, ◌++◌, map, eqb, ltb, length, Option, None, Some, option_map}
use Rattle.rules.specs.declared.TaskId.{TaskId}
use Rattle.rules.specs.declared.Fairness.{Fairness}
use Rattle.rules.specs.declared.Fairness.TheVariants.{StrictlyFair, Unfair}
use Rattle.rules.specs.declared.Act.{Act}
use Rattle.rules.specs.declared.Act.TheVariants.{Acquire, AcquireBypassable, AcquireReserving, Upgrade, Poll, Try, TryUpgrade, Release, Drop, Close, Sleep, Finish}
use Rattle.rules.specs.declared.Step.{Step}
use Rattle.rules.specs.declared.Taker.{Taker}
use Rattle.rules.specs.declared.Taker.TheVariants.{BySlot, ByTry}
use Rattle.rules.specs.declared.Grant.{Grant}
use Rattle.rules.specs.State.{State, available, stock}
use Rattle.rules.specs.Fresh.{Start, refuses12}
use Rattle.rules.specs.Spawning.{spawned}
use Rattle.rules.specs.Steps.{◌does◌, Answer, Outcome}
use Rattle.rules.specs.Steps.Answer.{done, granted, pending, closed, none_left, made, refused}
use Rattle.rules.specs.Runs.{step, start}
use Rattle.rules.specs.Text.{bytes, space, line_feed, comma, ◌is◌, joined_by, fields, Line, lines, number_of, digits}

-- In a `do` block each line says something, or the whole says nothing.
infixl 20 ◌>>=◌
abbrev pub ◌>>=◌ : {A B : Type 0} → Option A → (A → Option B) → Option B
None >>= f = None
Some a >>= f = f a

-- The first line.

-- `S` or `U`
abbrev pub fairness_of : List ℕ → Option Fairness
fairness_of f = cond (f is "S") (Some StrictlyFair) (cond (f is "U") (Some Unfair) None)

-- maker or `-`
abbrev pub maker_of : List ℕ → Option (Option TaskId)
maker_of f = cond (f is "-") (Some None) (option_map (λ t. Some (record { 0 = t })) (number_of f))

-- the numbers that fields say, where each says one
unfoldable pub numbers_of : List (List ℕ) → Option (List ℕ)
numbers_of [] = Some []
numbers_of (f ∷ fs) = do
  n ← number_of f
  ns ← numbers_of fs
  Some (n ∷ ns)

-- Document 02, No. 2: the first line may carry the starting clocks after the task count, row by row, all or none. None means that task 0
-- spawned the rest.
abbrev pub clocks_said : ℕ → List ℕ → Option (List ℕ)
clocks_said k [] = Some (spawned k)
clocks_said k (c ∷ cs) = cond (eqb (length (c ∷ cs)) (k * k)) (Some (c ∷ cs)) None

abbrev pub start_with : Fairness → ℕ → Option TaskId → ℕ → List ℕ → Start
start_with f n m k cs = record { fairness = f; stock = n; tasks = k; clocks = cs; maker = m }

-- `S` or `U`, stock, maker or `-`, tasks; then starting clocks, or none
unfoldable pub start_by : List (List ℕ) → Option Start
start_by [] = None
start_by (f ∷ []) = None
start_by (f ∷ n ∷ []) = None
start_by (f ∷ n ∷ m ∷ []) = None
start_by (f ∷ n ∷ m ∷ k ∷ cs) = do
  fairness ← fairness_of f
  stock ← number_of n
  maker ← maker_of m
  tasks ← number_of k
  entries ← numbers_of cs
  clocks ← clocks_said tasks entries
  Some (start_with fairness stock maker tasks clocks)

abbrev pub start_of : List ℕ → Option Start
start_of line = start_by (fields line)

-- Then a letter, the actor, numbers.

-- what a letter says with no more numbers behind the actor, with one more, and with two more
abbrev pub no_more : Act → List ℕ → Option Act
no_more a [] = Some a
no_more a (n ∷ ns) = None

abbrev pub one_more : (ℕ → Act) → List ℕ → Option Act
one_more a [] = None
one_more a (n ∷ []) = Some (a n)
one_more a (n ∷ m ∷ ns) = None

abbrev pub two_more : (ℕ → ℕ → Act) → List ℕ → Option Act
two_more a [] = None
two_more a (n ∷ []) = None
two_more a (n ∷ m ∷ []) = Some (a n m)
two_more a (n ∷ m ∷ k ∷ ns) = None

-- `A t n` request, `B t n` bypassable, `R t least n` reserving, `U t held wanted`, `P t slot`, `T t n` try, `V t held wanted`,
-- `L t n` release, `D t slot`, `C t`, `Z t` sleep, `F t` finish
unfoldable pub act_of : List ℕ → List ℕ → Option Act
act_of letter ns =
    cond (letter is "A") (one_more Acquire ns)
    (cond (letter is "B") (one_more AcquireBypassable ns)
    (cond (letter is "R") (two_more AcquireReserving ns)
    (cond (letter is "U") (two_more Upgrade ns)
    (cond (letter is "P") (one_more (λ x. Poll (record { 0 = x })) ns)
    (cond (letter is "T") (one_more Try ns)
    (cond (letter is "V") (two_more TryUpgrade ns)
    (cond (letter is "L") (one_more Release ns)
    (cond (letter is "D") (one_more (λ x. Drop (record { 0 = x })) ns)
    (cond (letter is "C") (no_more Close ns)
    (cond (letter is "Z") (no_more Sleep ns)
    (cond (letter is "F") (no_more Finish ns)
    None)))))))))))

-- the actor is the first number
abbrev pub step_with : List ℕ → List ℕ → Option Step
step_with letter [] = None
step_with letter (t ∷ ns) = option_map (λ a. record { 0 = t } does a) (act_of letter ns)

unfoldable pub step_by : List (List ℕ) → Option Step
step_by [] = None
step_by (letter ∷ fs) = numbers_of fs >>= step_with letter

abbrev pub step_of : List ℕ → Option Step
step_of line = step_by (fields line)

-- Other lines, an unended last one too, say nothing.
abbrev pub said : {A : Type 0} → (List ℕ → Option A) → Line → Option A
said by l = cond l.ended (by l.content) None

-- Each line prints.

-- answer (`done`, `granted`, `pending`, `closed`, `none`, `s` and slot, `r` and refusal)
abbrev pub answer_text : Answer → List ℕ
answer_text done = bytes "done"
answer_text granted = bytes "granted"
answer_text pending = bytes "pending"
answer_text closed = bytes "closed"
answer_text none_left = bytes "none"
answer_text (made x) = bytes "s" ++ digits x.0
answer_text (refused n) = bytes "r" ++ digits n

-- closed 0 or 1
abbrev pub closed_text : Bool → List ℕ
closed_text false = bytes "0"
closed_text true = bytes "1"

abbrev pub taker_text : Taker → List ℕ
taker_text (BySlot x) = digits x.0
taker_text ByTry = bytes "t"

-- granted slots joined by commas, `t` for a try, `-` for none
abbrev pub grants_text : List Grant → List ℕ
grants_text [] = bytes "-"
grants_text (g ∷ gs) = joined_by comma (map (λ (h : Grant). taker_text h.taker) (g ∷ gs))

abbrev pub end_line : List ℕ → List ℕ
end_line text = text ++ line_feed ∷ []

-- answer, available, stock, closed 0 or 1, queue length, granted slots
unfoldable pub outcome_text : Outcome → List ℕ
outcome_text o =
    end_line
    (joined_by space
    (answer_text o.answer
    ∷ digits (available o.state)
    ∷ digits (stock o.state)
    ∷ closed_text o.state.closed
    ∷ digits (length o.state.queue)
    ∷ grants_text o.grants
    ∷ []))

-- what a line prints, and the state after it
pub record Printing : Type 0 where
  pub text : List ℕ
  pub state : State

-- other lines print `bad` and change nothing
abbrev pub printing : Option Step → State → Printing
printing None s = record { text = end_line (bytes "bad"); state = s }
printing (Some a) s = let o = step a s in record { text = outcome_text o; state = o.state }

unfoldable pub trace : State → List Line → List ℕ
trace s [] = []
trace s (l ∷ ls) = let p = printing (said step_of l) s in p.text ++ trace p.state ls

-- a bad first line ends the program; a refused first line prints `r12` and ends it
abbrev pub trace_from : Option Start → List Line → List ℕ
trace_from None ls = end_line (bytes "bad")
trace_from (Some a) ls = let o = start a in cond (refuses12 a) (end_line (bytes "r12")) (outcome_text o ++ trace o.state ls)

-- empty input prints nothing
unfoldable pub program : List Line → List ℕ
program [] = []
program (l ∷ ls) = trace_from (said start_of l) ls

-- reads up to 65,536 bytes
abbrev pub longest : ℕ
longest = 65_536

-- What `semtrace` prints for the bytes that it is given; more than it reads prints only `long`.
unfoldable pub printed : List ℕ → List ℕ
printed s = cond (ltb longest (length s)) (end_line (bytes "long")) (program (lines s))

-- What it prints is at most so many bytes for each byte of the script (proofs/Rooms.antt): a line that can take permits has at least 6 bytes,
-- its line feed counted, and prints at most 118; one that says a start or any other step has at least 2 and prints at most 37; any other
-- prints 4, and a script that is too long 5.
abbrev pub byte_room : ℕ
byte_room = 20
