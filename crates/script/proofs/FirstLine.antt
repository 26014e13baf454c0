-- What a first line says, from one field to the next.
use Rattle.std.specs.Prelude.{Option, None, Some, option_map}
use Rattle.std.proofs.lemmas.Option.{none-some, same_Some}
use Prim.Native.Nat.{ℕ, min, ◌+◌, ◌≤◌, ◌<◌}
use native.Mathlib.Omega.{arith}
use mathlib.Core.Path.{◌≡◌, refl, ap, sym, ◌∙◌}
use mathlib.Core.Bool.{and-true, and-false}
use mathlib.Core.List.{List, [], ◌∷◌}
use lib.Dec.{eqb}
use lib.ListN.{length, drop}
use borrow.Author.Tests.{eq-eqb, ne_eqb}
use Rattle.rules.specs.declared.TaskId.{TaskId}
use Rattle.rules.specs.declared.Fairness.{Fairness}
use Rattle.rules.specs.declared.Fairness.TheVariants.{StrictlyFair, Unfair}
use Rattle.rules.specs.Fresh.{Start}
use Rattle.rules.specs.Text.{space, same, fields, before, number_of}
use Rattle.rules.specs.Script.{◌>>=◌, fairness_of, maker_of, numbers_of, clocks_said, start_with, start_by, start_of}
use Rattle.rules.proofs.Parts.{parts_front, parts_onward, parts-ended}
use Rattle.text.specs.declared.Reading.{Reading}
use Rattle.text.specs.declared.Reading.TheVariants.{Last, Then}
use Rattle.text.specs.Reading.{letter_of, ReadAt}
use Rattle.script.specs.declared.Opening.{Opening}
use Rattle.script.specs.declared.Opening.TheVariants.{Spawned}
use Rattle.script.specs.Opening.{maker_within, start_within, Opens, stock_by, tasks_on, maker_on, stock_on}

-- a field is a text of one byte where its letter is
letter_is : (f : List ℕ) (c : ℕ) → 0 < c → same f (c ∷ []) ≡ eqb (letter_of f) c
unfolding same letter_of
letter_is [] c h = sym (ne_eqb 0 c (λ e. omega arith))
letter_is (x ∷ []) c h = and-true (eqb x c)
letter_is (x ∷ y ∷ ys) c h = and-false (eqb x c) ∙ sym (ne_eqb 0 c (λ e. omega arith))

-- where nothing is said behind it, nothing is said
nothing : {A B : Type 0} (o : Option A) (k : A → Option B) → ((a : A) → k a ≡ None) → (o >>= k) ≡ None
nothing None k h = refl
nothing (Some a) k h = h a

-- what is said from one place on is said from another
as_said : {line : List ℕ} {o p : Option Start} (r : Option Opening) → o ≡ p → Opens line o r → Opens line p r
as_said r e q = record { says = q.says ∙ e; within = q.within }

shut : (line : List ℕ) (o : Option Start) → None ≡ o → Opens line o None
shut line o e = record { says = e; within = tt }

-- The tasks.
module _ (f : Fairness) (n : ℕ) (m : Option TaskId) (line : List ℕ) (at : ℕ) where
  pub tasks_none : ReadAt line at None → Opens line (tasks_on f n m line at) None
  tasks_none p = shut line (tasks_on f n m line at) (rw (parts_front space (drop at line), p.says))

  pub tasks-last : (k : ℕ) → ReadAt line at (Some (Last k)) → Opens line (tasks_on f n m line at) (Some (Spawned (record { fairness = f; stock = n; maker = m; tasks = k })))
  unfolding numbers_of
  tasks-last k p = record { says = rw (p.behind, p.says); within = tt }

-- The stock, and what stands behind it.
module _ (f : Fairness) (line : List ℕ) (at : ℕ) where
  pub stock_none : ReadAt line at None → Opens line (stock_on f line at) None
  stock_none p = shut line (stock_on f line at) (rw (parts_front space (drop at line), p.says))

  module _ (r : Reading) (read : ReadAt line at (Some r)) where
    pub stock-last : (n : ℕ) → r ≡ Last n → Opens line (stock_on f line at) None
    stock-last n e = let p = rw e at read in shut line (stock_on f line at) (rw (p.behind, p.says))

    pub stock_then : (n next : ℕ) (o : Option Opening) → r ≡ Then n next → Opens line (maker_on f n line next) o → Opens line (stock_on f line at) o
    stock_then n next o e q = let p = rw e at read in as_said o (rw (p.behind.0, p.says)) q

-- The maker, and what stands behind it.
module _ (f : Fairness) (n : ℕ) (line g : List ℕ) (at : ℕ) (is : g ≡ before space (drop at line)) where
  ends : at + length g ≡ at + length (before space (drop at line))
  ends = ap (λ (l : List ℕ). at + length l) is

  pub maker-last : length line ≤ at + length g → Opens line (maker_on f n line at) None
  maker-last h = shut line (maker_on f n line at) (rw (parts-ended space line at (at + length g) ends h) (sym (nothing (maker_of (before space (drop at line))) _ (λ m. refl))))

  module _ (h : at + length g < length line) where
    onward : maker_on f n line at ≡ (maker_of g >>= λ m. tasks_on f n (maker_within m) line (at + length g + 1))
    onward = rw (parts_onward space line at (at + length g) ends h, ← is)

    pub maker_none : None ≡ option_map maker_within (maker_of g) → Opens line (maker_on f n line at) None
    maker_none e = shut line (maker_on f n line at) (sym (onward ∙ unsaid (maker_of g) e))
      where
        unsaid : (o : Option (Option TaskId)) → None ≡ option_map maker_within o → (o >>= λ m. tasks_on f n (maker_within m) line (at + length g + 1)) ≡ None
        unsaid None e = refl
        unsaid (Some m) e = absurd (none-some (maker_within m) e)

    pub maker_told : (m : Option TaskId) (o : Option Opening) → Some m ≡ option_map maker_within (maker_of g) → Opens line (tasks_on f n m line (at + length g + 1)) o → Opens line (maker_on f n line at) o
    maker_told m o e q = as_said o (sym (onward ∙ told (maker_of g) e)) q
      where
        told : (p : Option (Option TaskId)) → Some m ≡ option_map maker_within p → (p >>= λ k. tasks_on f n (maker_within k) line (at + length g + 1)) ≡ tasks_on f n m line (at + length g + 1)
        told None e = absurd (none-some m (sym e))
        told (Some k) e = rw (same_Some m (maker_within k) e)

-- A field that says a maker.
module _ (g : List ℕ) (letter : ℕ) (l : letter ≡ letter_of g) where
  pub maker_dash : letter ≡ 45 → Some None ≡ option_map maker_within (maker_of g)
  maker_dash e = rw (letter_is g 45 (omega arith), ← l, eq-eqb letter 45 e)

  module _ (d : letter ≡ 45 → ⊥) where
    by_number : maker_of g ≡ option_map (λ (t : ℕ). Some (record { 0 = t })) (number_of g)
    by_number = rw (letter_is g 45 (omega arith), ← l, ne_eqb letter 45 d)

    pub no_number : None ≡ number_of g → None ≡ option_map maker_within (maker_of g)
    no_number s = sym (ap (option_map maker_within) by_number ∙ rw (← s))

    pub maker-named : (t u : ℕ) → Some t ≡ number_of g → u ≡ min t 255 → Some (Some (record { 0 = u })) ≡ option_map maker_within (maker_of g)
    maker-named t u s v = sym (ap (option_map maker_within) by_number ∙ rw (← s, v))

-- The whole line, field by field.
named-clocks : (a : Fairness) (b : ℕ) (c : Option TaskId) (d : ℕ) (o : Option (List ℕ)) → start_within (o >>= λ e. Some (start_with a b c d e)) ≡ (o >>= λ e. Some (start_with a b (maker_within c) d e))
named-clocks a b c d None = refl
named-clocks a b c d (Some e) = refl

-- the clocks that entries say, at once or one after the other
clocks_regrouped : {B : Type 0} (k : ℕ) (o : Option (List ℕ)) (f : List ℕ → Option B) → (o >>= λ e. clocks_said k e >>= f) ≡ ((o >>= clocks_said k) >>= f)
clocks_regrouped k None f = refl
clocks_regrouped k (Some e) f = refl

named_at_once : (f : Option Fairness) (n : Option ℕ) (m : Option (Option TaskId)) (k : Option ℕ) (g : Option (List ℕ))
    → start_within (f >>= λ a. n >>= λ b. m >>= λ c. k >>= λ d. g >>= λ e. clocks_said d e >>= λ h. Some (start_with a b c d h))
    ≡ (f >>= λ a. n >>= λ b. m >>= λ c. k >>= λ d. (g >>= clocks_said d) >>= λ h. Some (start_with a b (maker_within c) d h))
named_at_once None n m k g = refl
named_at_once (Some a) None m k g = refl
named_at_once (Some a) (Some b) None k g = refl
named_at_once (Some a) (Some b) (Some c) None g = refl
named_at_once (Some a) (Some b) (Some c) (Some d) g =
    ap start_within (clocks_regrouped d g (λ h. Some (start_with a b c d h))) ∙ named-clocks a b c d (g >>= clocks_said d)

by_fields : (f : List ℕ) (fs : List (List ℕ)) → start_within (start_by (f ∷ fs)) ≡ (fairness_of f >>= λ a. stock_by a fs)
unfolding start_by
by_fields f [] = sym (nothing (fairness_of f) _ (λ a. refl))
by_fields f (n ∷ []) = sym (nothing (fairness_of f) _ (λ a. nothing (number_of n) _ (λ b. refl)))
by_fields f (n ∷ m ∷ []) = sym (nothing (fairness_of f) _ (λ a. nothing (number_of n) _ (λ b. nothing (maker_of m) _ (λ c. refl))))
by_fields f (n ∷ m ∷ k ∷ cs) = named_at_once (fairness_of f) (number_of n) (maker_of m) (number_of k) (numbers_of cs)

module _ (line g : List ℕ) (is : g ≡ before space (drop 0 line)) where
  starts : length g ≡ 0 + length (before space (drop 0 line))
  starts = ap length is ∙ omega arith

  pub start-alone : length line ≤ length g → Opens line (start_within (start_of line)) None
  unfolding start_by
  start-alone h = shut line (start_within (start_of line)) (rw (parts-ended space line 0 (length g) starts h))

  module _ (letter : ℕ) (l : letter ≡ letter_of g) (h : length g < length line) where
    by_fairness : start_within (start_of line) ≡ (fairness_of g >>= λ a. stock_on a line (length g + 1))
    by_fairness = rw (parts_onward space line 0 (length g) starts h, ← is) (by_fields g (fields (drop (length g + 1) line)))

    pub start-strict : (o : Option Opening) → letter ≡ 83 → Opens line (stock_on StrictlyFair line (length g + 1)) o → Opens line (start_within (start_of line)) o
    start-strict o e q = as_said o (sym (by_fairness ∙ rw (letter_is g 83 (omega arith), ← l, e))) q

    pub start-unfair : (o : Option Opening) → letter ≡ 85 → Opens line (stock_on Unfair line (length g + 1)) o → Opens line (start_within (start_of line)) o
    start-unfair o e q = as_said o (sym (by_fairness ∙ rw (letter_is g 83 (omega arith), letter_is g 85 (omega arith), ← l, e))) q

    pub start_neither : (letter ≡ 83 → ⊥) → (letter ≡ 85 → ⊥) → Opens line (start_within (start_of line)) None
    start_neither s u =
        shut line (start_within (start_of line)) (sym (by_fairness ∙ rw (letter_is g 83 (omega arith), letter_is g 85 (omega arith), ← l, ne_eqb letter 83 s, ne_eqb letter 85 u)))
