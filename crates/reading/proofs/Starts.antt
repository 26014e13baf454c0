-- The start that a first line says, with the clocks that were read.
use Rattle.std.specs.Prelude.{Option, None, Some}
use Rattle.std.proofs.lemmas.Option.{same_Some}
use Prim.Native.Nat.{ℕ, ◌+◌, ◌*◌, ◌-◌, ◌≤◌, ◌<◌}
use native.Mathlib.Nat.{mul-le-mul}
use native.Mathlib.Decide.{dec_lt}
use native.Mathlib.Omega.{arith}
use mathlib.Core.Path.{◌≡◌, refl, ap, sym, subst, ◌∙◌}
use mathlib.Core.Bool.{Bool, true, false}
use mathlib.Core.List.{List, [], ◌∷◌}
use lib.Dec.{eqb}
use lib.ListN.{length, take, drop}
use lib.Seq.{length-take-le}
use borrow.Author.Tests.{lt-ltb, le-ltb, eqb-true}
use Rattle.rules.specs.Fresh.{Start}
use Rattle.rules.specs.Spawning.{spawned}
use Rattle.rules.specs.Runs.{start}
use Rattle.rules.specs.Text.{fields, lines}
use Rattle.rules.specs.Script.{◌>>=◌, numbers_of, clocks_said, start_of}
use Rattle.rules.proofs.Options.{said-not}
use Rattle.rules.proofs.Laws.{refused-start}
use Rattle.rules.proofs.Scripts.{many_tasks}
use Rattle.text.specs.Reading.{Within, NextIs}
use Rattle.text.specs.declared.NextLine.{NextLine}
use Rattle.text.specs.declared.NextLine.TheVariants.{Ended, Unended, End}
use Rattle.script.specs.declared.First.{First}
use Rattle.script.specs.declared.Opening.{Opening}
use Rattle.script.specs.declared.Opening.TheVariants.{Spawned, Given}
use Rattle.script.specs.Opening.{start_said, opened, start_named, start_within, Opens}
use Rattle.script.proofs.Within.{start-within}
use Rattle.spawning.specs.Rows.{spawned_in}
use Rattle.spawning.proofs.Spawns.{spawned_taken, spawned-sized}
use Rattle.reading.specs.declared.FirstLine.{FirstLine}
use Rattle.reading.specs.declared.FirstLine.TheVariants.{Is, Bad, Nothing}
use Rattle.reading.specs.Starts.{entries_of, start_read, ReadsStart, SaysStart, SaysFirst, Reads}

-- How many entries.

square : (k : ℕ) → k ≤ 16 → k * k ≤ 256
square k h = mul-le-mul h h

pub too_many_lem : (k : ℕ) → 16 < k → 0 ≡ entries_of k
too_many_lem k h = rw (lt-ltb 16 k h)

pub not_too_many : (k : ℕ) → k ≤ 16 → k * k ≡ entries_of k
not_too_many k h = rw (le-ltb 16 k h)

pub entries-few : (k : ℕ) → entries_of k ≤ 256
entries-few k = elim (dec_lt 16 k) [ yes h ↦ rw (lt-ltb 16 k h) (omega arith) | no h ↦ rw (le-ltb 16 k (omega arith)) (square k (omega arith)) ]

-- A start with clocks of which the words hold those of up to 16 tasks: 12 refuses more tasks whatever their clocks.
same_begun : (a : First) (cs starts : List ℕ) → (a.tasks ≤ 16 → take (a.tasks * a.tasks) starts ≡ cs) → start (start_read a starts) ≡ start (start_said a cs)
same_begun a cs starts kept =
    let k = a.tasks in
    elim (dec_lt 16 k) [
      | yes h ↦ refused-start (start_read a starts) (many_tasks _ h) ∙ sym (refused-start (start_said a cs) (many_tasks _ h))
      | no h ↦ rw (← not_too_many k (omega arith), kept (omega arith))
    ]

-- clocks that were spawned
pub same-spawned : (a : First) (starts : List ℕ) → starts ≡ spawned_in a.tasks → start (start_read a starts) ≡ start (start_said a (spawned a.tasks))
same-spawned a starts e = same_begun a (spawned a.tasks) starts (λ h. rw e (spawned_taken a.tasks h))

reads_spawned : (a : First) (starts : List ℕ) → starts ≡ spawned_in a.tasks → ReadsStart (Some (start_said a (spawned a.tasks))) a starts
reads_spawned a starts e =
    record { start = start_said a (spawned a.tasks); says = refl; same = same-spawned a starts e; sized = spawned-sized a.tasks starts e }

-- Clocks that were given: as many entries as the tasks have, or the line says nothing.
all_given : (k : ℕ) (cs : List ℕ) (t : Bool) → 0 < length cs → eqb (length cs) (k * k) ≡ t → clocks_said k cs ≡ elim t [ true ↦ Some cs | false ↦ None ]
all_given k [] t h e = absurd (omega arith)
all_given k (c ∷ cs) true h e = rw e
all_given k (c ∷ cs) false h e = rw e

module _ (a : First) (line : List ℕ) (at next : ℕ) (starts : List ℕ) where
  module _ (n : ℕ) (read : Reads (numbers_of (fields (drop at line))) n starts) where
    told : (t : Bool) → t ≡ eqb n (a.tasks * a.tasks) → opened line (Some (Given a at)) ≡ elim t [ true ↦ Some (start_said a read.numbers) | false ↦ None ]
    told t e = rw (read.says, all_given a.tasks read.numbers t (omega (arith, read.some_there, read.count)) (ap (λ (m : ℕ). eqb m (a.tasks * a.tasks)) (sym read.count) ∙ sym e)) (by_test t)
      where
        by_test : (t : Bool) → (elim t [ true ↦ Some read.numbers | false ↦ None ] >>= λ cs. Some (start_said a cs)) ≡ elim t [ true ↦ Some (start_said a read.numbers) | false ↦ None ]
        by_test true = refl
        by_test false = refl

    pub given_all : (t : Bool) → t ≡ eqb n (a.tasks * a.tasks) → t ≡ true → SaysStart (opened line (Some (Given a at))) next (Is a next) starts
    given_all t e b =
        let m : n ≡ a.tasks * a.tasks = eqb-true n (a.tasks * a.tasks) (sym e ∙ b) in (
          refl,
          record {
            start = start_said a read.numbers;
            says = told true (sym b ∙ e);
            same = same_begun a read.numbers starts (λ h. rw (← m) (read.kept (omega (arith, m, square a.tasks h))));
            sized = read.sized;
          },
        )

-- What is read names the maker within a byte, which makes no difference.
named : (o : Option Start) (next : ℕ) (res : FirstLine) (starts : List ℕ) → SaysStart (start_within o) next res starts → SaysStart o next res starts
named None next (Is first next') starts s = absurd (said-not None s.1.start s.1.says refl)
named (Some a) next (Is first next') starts s =
    let r = s.1 in
    let q = same_Some (start_named a) r.start r.says in
    (s.0, record { start = a; says = refl; same = r.same ∙ ap start (sym q) ∙ start-within a; sized = r.sized })
named None next Bad starts s = refl
named (Some a) next Bad starts s = absurd (said-not (Some (start_named a)) (start_named a) refl s)
named o next Nothing starts s = s

-- What a line says, by what was opened.
module _ (line : List ℕ) (next : ℕ) (starts : List ℕ) where
  as_opened : (x : Option Opening) (res : FirstLine) → Opens line (start_within (start_of line)) x → SaysStart (opened line x) next res starts → SaysStart (start_of line) next res starts
  as_opened x res is s = named (start_of line) next res starts (subst (λ (o : Option Start). SaysStart o next res starts) is.says s)

  pub start-spawned : (a : First) → Opens line (start_within (start_of line)) (Some (Spawned a)) → starts ≡ spawned_in a.tasks → SaysStart (start_of line) next (Is a next) starts
  start-spawned a is w = as_opened (Some (Spawned a)) (Is a next) is (refl, reads_spawned a starts w)

  pub start-given : (a : First) (at : ℕ) (res : FirstLine) → Opens line (start_within (start_of line)) (Some (Given a at)) → SaysStart (opened line (Some (Given a at))) next res starts
      → SaysStart (start_of line) next res starts
  start-given a at res is s = as_opened (Some (Given a at)) res is s

-- The first line of a script.
module _ (script : List ℕ) (l : NextLine) (is : NextIs script 0 l) (starts : List ℕ) where
  pub first_ended : (e : ℕ) (res : FirstLine) → l ≡ Ended e → SaysStart (start_of (take e script)) (e + 1) res starts → SaysFirst script res starts
  first_ended e res q s = go res s
    where
      w : (0 ≤ e) × (e < length script)
      w = subst (λ (x : NextLine). Within script 0 x) q is.within

      shown : lines script ≡ record { content = take e script; ended = true } ∷ lines (drop (e + 1) script)
      shown =
          let z : e - 0 ≡ e = omega arith in
          let s : lines script ≡ record { content = take (e - 0) script; ended = true } ∷ lines (drop (e + 1) script) = (rw q at is).shows in
          rw z at s

      n : length (take e script) ≡ e
      n = length-take-le e script (omega (arith, w.1))

      go : (x : FirstLine) → SaysStart (start_of (take e script)) (e + 1) x starts → SaysFirst script x starts
      go (Is first next) s =
          record { line = record { content = take e script; ended = true }; shows = rw s.0 shown; read = s.1; bytes = omega (arith, s.0, n); within = omega (arith, s.0, w.1) }
      go Bad s = record { line = record { content = take e script; ended = true }; behind = lines (drop (e + 1) script); shows = shown; says = s; some_bytes = omega (arith, w.1) }
      go Nothing s = absurd s

  pub first_unended : l ≡ Unended → SaysFirst script Bad starts
  first_unended q =
      record { line = record { content = script; ended = false }; behind = []; shows = (rw q at is).shows; says = refl; some_bytes = subst (λ (x : NextLine). Within script 0 x) q is.within }

  pub first-none : l ≡ End → SaysFirst script Nothing starts
  first-none q = (rw q at is).shows
