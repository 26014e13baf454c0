-- Room for what a script prints, line by line: a line of a letter and the actor takes no permits, and any other that says a step has at least
-- six bytes, its line feed counted.
use Rattle.std.specs.Prelude.{Option, None, Some, option_map, unwrap_or}
use Prim.Native.Nat.{ℕ, ◌+◌, ◌*◌, ◌≤◌}
use native.Mathlib.Omega.{arith}
use native.Mathlib.Decide.{dec_le}
use mathlib.Core.Path.{◌≡◌, refl, ap, subst}
use mathlib.Core.Bool.{Bool, true, false, cond}
use mathlib.Core.List.{List, [], ◌∷◌, ◌++◌}
use lib.ListN.{length, length-append}
use Rattle.rules.specs.declared.TaskId.{TaskId}
use Rattle.rules.specs.declared.Act.{Act}
use Rattle.rules.specs.declared.Act.TheVariants.{Close, Sleep, Finish}
use Rattle.rules.specs.declared.Step.{Step}
use Rattle.rules.specs.Sizes.{largest}
use Rattle.rules.specs.State.{State, stock}
use Rattle.rules.specs.Fresh.{Start, fresh, refuses12}
use Rattle.rules.specs.Steps.{◌does◌, Outcome, quiet, effect_of}
use Rattle.rules.specs.Steps.Answer.{done}
use Rattle.rules.specs.Runs.{step, start}
use Rattle.rules.specs.Sound.{Sound}
use Rattle.rules.specs.Text.{◌is◌, space, line_feed, same, parts, joined_by, fields, lines_of, no_leading_zero, number_of}
use Rattle.rules.specs.Script.{◌>>=◌, start_by, start_of, act_of, numbers_of, step_with, step_by, step_of, outcome_text, printing, trace, trace_from, program, longest, printed, byte_room}
use Rattle.rules.proofs.Bools.{by_cond}
use Rattle.rules.proofs.Options.{said-not}
use Rattle.rules.proofs.Parts.{joined-parts}
use Rattle.rules.proofs.Starts.{fields-said}
use Rattle.rules.proofs.KeepsSteps.{by_refusal, sound-step, sound-fresh}
use Rattle.rules.proofs.Conservation.{step-stock}
use Rattle.rules.proofs.Lengths.{line-short, outcome-short, quiet-outcome}
use Rattle.rules.proofs.Scripts.{long-printed, short-printed}

-- What takes no permits.

abbrev Quiet : Act → Type 0
Quiet a = (t : TaskId) (s : State) → (step (t does a) s).grants ≡ []

abbrev QuietIf : Option Act → Type 0
QuietIf None = Unit {0}
QuietIf (Some a) = Quiet a

close-quiet : Quiet Close
unfolding effect_of
close-quiet t s = by_refusal (λ (o : Outcome). o.grants ≡ []) (t does Close) s (λ e. refl) (λ r e. refl)

sleep_quiet : Quiet Sleep
unfolding effect_of
sleep_quiet t s = by_refusal (λ (o : Outcome). o.grants ≡ []) (t does Sleep) s (λ e. refl) (λ r e. refl)

finish_quiet : Quiet Finish
unfolding effect_of
finish_quiet t s = by_refusal (λ (o : Outcome). o.grants ≡ []) (t does Finish) s (λ e. refl) (λ r e. refl)

-- a letter with the actor alone
alone-quiet : (letter : List ℕ) → QuietIf (act_of letter [])
unfolding act_of
alone-quiet letter =
    go (letter is "A") (letter is "B") (letter is "R") (letter is "U") (letter is "P") (letter is "T") (letter is "V") (letter is "L") (letter is "D") (letter is "C") (letter is "Z") (letter is "F")
  where
    go : (a b c d e f g h i j k l : Bool) → QuietIf (cond a None (cond b None (cond c None (cond d None (cond e None (cond f None (cond g None (cond h None (cond i None (cond j (Some Close) (cond k (Some Sleep) (cond l (Some Finish) None))))))))))))
    go true b c d e f g h i j k l = tt
    go false true c d e f g h i j k l = tt
    go false false true d e f g h i j k l = tt
    go false false false true e f g h i j k l = tt
    go false false false false true f g h i j k l = tt
    go false false false false false true g h i j k l = tt
    go false false false false false false true h i j k l = tt
    go false false false false false false false true i j k l = tt
    go false false false false false false false false true j k l = tt
    go false false false false false false false false false true k l = close-quiet
    go false false false false false false false false false false true l = sleep_quiet
    go false false false false false false false false false false false true = finish_quiet
    go false false false false false false false false false false false false = tt

-- The fields of a line that says a step.

no_letter : (o : Option (List ℕ)) → (o >>= step_with []) ≡ None
unfolding act_of same
no_letter None = refl
no_letter (Some []) = refl
no_letter (Some (t ∷ ns)) = refl

no_number : (o : Option ℕ) (p : Option (List ℕ)) → p ≡ None → (o >>= λ n. p >>= λ ns. Some (n ∷ ns)) ≡ None
no_number None p e = refl
no_number (Some n) p e = rw e

-- a line that takes no permits, or a long one
data Kind (line : List ℕ) (a : Step) : Type 0 where
  quiet_line : ((s : State) → (step a s).grants ≡ []) → Kind line a
  long-line : 5 ≤ length line → Kind line a

two_fields : (letter : List ℕ) (n : Option ℕ) (a : Step) → ((n >>= λ t. Some (t ∷ [])) >>= step_with letter) ≡ Some a → (s : State) → (step a s).grants ≡ []
two_fields letter None a e s = absurd (said-not None a e refl)
two_fields letter (Some t) a e s = go (act_of letter []) (alone-quiet letter) e
  where
    go : (o : Option Act) → QuietIf o → option_map (λ b. record { 0 = t } does b) o ≡ Some a → (step a s).grants ≡ []
    go None q e = absurd (said-not None a e refl)
    go (Some b) q e =
        let p : record { 0 = t } does b ≡ a = ap (λ (o : Option Step). unwrap_or o a) e in
        rw (← p) (q (record { 0 = t }) s)

by_kind : (p : List (List ℕ)) (a : Step) → step_by p ≡ Some a → Kind (joined_by space p) a
unfolding step_by numbers_of joined_by number_of no_leading_zero
by_kind [] a e = absurd (said-not None a e refl)
by_kind (l ∷ []) a e = absurd (said-not None a e refl)
by_kind (l ∷ f ∷ []) a e = quiet_line (two_fields l (number_of f) a e)
by_kind ([] ∷ f ∷ g ∷ fs) a e = absurd (said-not (step_by ([] ∷ f ∷ g ∷ fs)) a e (no_letter (numbers_of (f ∷ g ∷ fs))))
by_kind ((x ∷ l) ∷ [] ∷ g ∷ fs) a e = absurd (said-not None a e refl)
by_kind ((x ∷ l) ∷ (y ∷ f) ∷ [] ∷ fs) a e = absurd (said-not (step_by ((x ∷ l) ∷ (y ∷ f) ∷ [] ∷ fs)) a e (ap (λ (o : Option (List ℕ)). o >>= step_with (x ∷ l)) (no_number (number_of (y ∷ f)) (numbers_of ([] ∷ fs)) refl)))
by_kind ((x ∷ l) ∷ (y ∷ f) ∷ (z ∷ g) ∷ fs) a e =
    long-line (rw (length-append (x ∷ l) (space ∷ ((y ∷ f) ++ space ∷ joined_by space ((z ∷ g) ∷ fs))), length-append (y ∷ f) (space ∷ joined_by space ((z ∷ g) ∷ fs))) (omega (arith, begins z g fs)))
  where
    begins : (z : ℕ) (g : List ℕ) (fs : List (List ℕ)) → 1 ≤ length (joined_by space ((z ∷ g) ∷ fs))
    begins z g [] = omega arith
    begins z g (h ∷ fs) = omega arith

kind_of_lem : (line : List ℕ) (a : Step) → step_of line ≡ Some a → Kind line a
kind_of_lem line a e = rw (joined-parts space line) at (by_kind (fields line) a e)

-- a line that says something is not empty
step-some : (line : List ℕ) (a : Step) → step_of line ≡ Some a → 1 ≤ length line
unfolding parts step_by numbers_of
step-some [] a e = absurd (said-not None a e refl)
step-some (c ∷ line) a e = omega arith

start_some : (line : List ℕ) (a : Start) → start_of line ≡ Some a → 1 ≤ length line
unfolding parts start_by
start_some [] a e = absurd (said-not None a e refl)
start_some (c ∷ line) a e = omega arith

step_room : (line : List ℕ) (a : Step) → step_of line ≡ Some a → (s : State) → Sound s → stock s ≤ largest → length (outcome_text (step a s)) ≤ byte_room * (length line + 1)
step_room line a e s h l = go (kind_of_lem line a e)
  where
    go : Kind line a → length (outcome_text (step a s)) ≤ byte_room * (length line + 1)
    go (long-line m) = omega (arith, outcome-short a s h l)
    go (quiet_line q) = omega (arith, quiet-outcome a s h l (q s), step-some line a e)

-- From line to line, and the whole.

trace-room : (ps : List (List ℕ)) (s : State) → Sound s → stock s ≤ largest → length (trace s (lines_of ps)) ≤ byte_room * length (joined_by line_feed ps)
unfolding lines_of trace joined_by
trace-room [] s h l = omega arith
trace-room ([] ∷ []) s h l = omega arith
trace-room ((c ∷ p) ∷ []) s h l = omega arith
trace-room (p ∷ q ∷ ps) s h l = go (step_of p) refl (λ b k m. trace-room (q ∷ ps) b k m)
  where
    go : (o : Option Step) → step_of p ≡ o
        → ((b : State) → Sound b → stock b ≤ largest → length (trace b (lines_of (q ∷ ps))) ≤ byte_room * length (joined_by line_feed (q ∷ ps)))
        → length ((printing o s).text ++ trace (printing o s).state (lines_of (q ∷ ps))) ≤ byte_room * length (p ++ line_feed ∷ joined_by line_feed (q ∷ ps))
    go None e f = omega (arith, length-append p (line_feed ∷ joined_by line_feed (q ∷ ps)), f s h l)
    go (Some a) e f =
        let b = (step a s).state in
        omega (arith, length-append p (line_feed ∷ joined_by line_feed (q ∷ ps)), length-append (outcome_text (step a s)) (trace b (lines_of (q ∷ ps))), step_room p a e s h l, f b (sound-step a s h) (step-stock a s l))

accepted-start : (a : Start) → refuses12 a ≡ false → start a ≡ quiet done (fresh a)
unfolding start
accepted-start a e = rw e

fresh-stock : (a : Start) → stock (fresh a) ≡ a.stock
unfolding fresh
fresh-stock a = refl

first-room : (a : Start) → refuses12 a ≡ false → a.stock ≤ largest → length (outcome_text (quiet done (fresh a))) ≤ 34
first-room a b l = line-short (quiet done (fresh a)) 5 (sound-fresh a b) (omega (arith, fresh-stock a)) (omega arith)

program-room : (ps : List (List ℕ)) → length (program (lines_of ps)) ≤ byte_room * length (joined_by line_feed ps)
unfolding lines_of program joined_by
program-room [] = omega arith
program-room ([] ∷ []) = omega arith
program-room ((c ∷ p) ∷ []) = omega arith
program-room (p ∷ q ∷ ps) = go (start_of p) refl
  where
    go : (o : Option Start) → start_of p ≡ o → length (trace_from o (lines_of (q ∷ ps))) ≤ byte_room * length (p ++ line_feed ∷ joined_by line_feed (q ∷ ps))
    go None e = omega (arith, length-append p (line_feed ∷ joined_by line_feed (q ∷ ps)))
    go (Some a) e =
        by_cond (λ (t : List ℕ). length t ≤ byte_room * length (p ++ line_feed ∷ joined_by line_feed (q ∷ ps))) (refuses12 a) (λ b. omega (arith, length-append p (line_feed ∷ joined_by line_feed (q ∷ ps)))) (λ b.
        let l = (fields-said (fields p) a e).stock-fits in
        let k : length (trace (fresh a) (lines_of (q ∷ ps))) ≤ byte_room * length (joined_by line_feed (q ∷ ps)) = trace-room (q ∷ ps) (fresh a) (sound-fresh a b) (omega (arith, fresh-stock a)) in
        rw (accepted-start a b)
        (omega (arith, length-append p (line_feed ∷ joined_by line_feed (q ∷ ps)), length-append (outcome_text (quiet done (fresh a))) (trace (fresh a) (lines_of (q ∷ ps))), first-room a b l, start_some p a e, k)))

-- WHAT A SCRIPT PRINTS is at most so many bytes for each of its own.
pub printed-short : (script : List ℕ) → length (printed script) ≤ byte_room * length script
printed-short script =
    elim (dec_le (length script) longest) [
      | yes h ↦
          rw (short-printed script h)
          (subst (λ (t : List ℕ). length (program (lines_of (parts line_feed script))) ≤ byte_room * length t) (joined-parts line_feed script) (program-room (parts line_feed script)))
      | no h ↦ rw (long-printed script (omega arith)) (omega arith)
    ]
