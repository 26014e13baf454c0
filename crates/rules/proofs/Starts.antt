-- First lines: which of them say a start, and which start.
use Rattle.std.specs.Prelude.{Option, None, Some, option_map}
use Rattle.std.proofs.lemmas.Option.{same_Some}
use Prim.Native.Nat.{ℕ, zero, suc, ◌*◌, ◌≤◌}
use native.Mathlib.Omega.{arith}
use mathlib.Core.Path.{◌≡◌, refl, ap, sym, ◌∙◌}
use mathlib.Core.Bool.{Bool, true, false, cond, ◌||◌, or-false, true≢false}
use mathlib.Core.List.{List, [], ◌∷◌, ◌++◌, map, append-nil}
use lib.Dec.{eqb, ltb}
use lib.ListN.{length, replicate, length-replicate}
use borrow.Author.Tests.{eqb-true, eq-eqb}
use Rattle.rules.specs.declared.TaskId.{TaskId}
use Rattle.rules.specs.declared.Fairness.{Fairness}
use Rattle.rules.specs.declared.Fairness.TheVariants.{StrictlyFair, Unfair}
use Rattle.rules.specs.Sizes.{max_tasks, largest}
use Rattle.rules.specs.Fresh.{Start, not_below, refuses12}
use Rattle.rules.specs.Spawning.{spawned}
use Rattle.rules.specs.Promises.{Each, StartFits}
use Rattle.rules.specs.Text.{bytes, space, same, ◌is◌, before, parts, joined_by, fields, no_leading_zero, all_digits, value_from, number_of, digits}
use Rattle.rules.specs.Script.{◌>>=◌, fairness_of, maker_of, numbers_of, clocks_said, start_with, start_by, start_of}
use Rattle.rules.proofs.Bools.{both, by_test}
use Rattle.rules.proofs.Options.{said-not, said_in, said_changed, said_if}
use Rattle.rules.proofs.Decimal.{read-printed, digits-free, read_fits, printed-read}
use Rattle.rules.proofs.Parts.{joined-parts, Free, parts_append, parts-joined}
use Rattle.rules.proofs.Spawned.{spawned-length, spawned-fit}

-- The form of a first line.

abbrev pub fairness_text : Fairness → List ℕ
fairness_text StrictlyFair = bytes "S"
fairness_text Unfair = bytes "U"

abbrev pub maker_text : Option TaskId → List ℕ
maker_text None = bytes "-"
maker_text (Some t) = digits t.0

abbrev pub MakerFits : Option TaskId → Type 0
MakerFits None = Unit {0}
MakerFits (Some t) = t.0 ≤ largest

abbrev pub AllFit : List ℕ → Type 0
AllFit ns = Each (λ (n : ℕ). n ≤ largest) ns

-- the clocks of k tasks: spawned where no entry is written, else the entries, k * k of them
abbrev pub ClocksFrom : ℕ → List ℕ → List ℕ → Type 0
ClocksFrom k [] clocks = clocks ≡ spawned k
ClocksFrom k (c ∷ cs) clocks = (length (c ∷ cs) ≡ k * k) × (clocks ≡ c ∷ cs)

-- the fields of a first line that says the start a: fairness, stock, maker or `-`, tasks, entries
pub record StartFields (fs : List (List ℕ)) (a : Start) : Type 0 where
  pub entries : List ℕ
  pub form : fs ≡ fairness_text a.fairness ∷ digits a.stock ∷ maker_text a.maker ∷ digits a.tasks ∷ map digits entries
  pub stock-fits : a.stock ≤ largest
  pub maker-fits : MakerFits a.maker
  pub tasks-fit : a.tasks ≤ largest
  pub entries_fit : AllFit entries
  pub clocks : ClocksFrom a.tasks entries a.clocks

-- the bytes of such a line: its fields with one space between
pub record StartLine (line : List ℕ) (a : Start) : Type 0 where
  pub written : List (List ℕ)
  pub form : line ≡ joined_by space written
  pub says : StartFields written a

-- Field by field, both ways.

same_text : (xs ys : List ℕ) → same xs ys ≡ true → xs ≡ ys
unfolding same
same_text [] [] e = refl
same_text [] (y ∷ ys) e = absurd (true≢false (sym e))
same_text (x ∷ xs) [] e = absurd (true≢false (sym e))
same_text (x ∷ xs) (y ∷ ys) e =
    let b = both (eqb x y) (same xs ys) e in
    rw (eqb-true x y b.0, same_text xs ys b.1)

fairness-said : (f : List ℕ) (x : Fairness) → fairness_of f ≡ Some x → f ≡ fairness_text x
fairness-said f x = go (f is "S") (f is "U") refl refl
  where
    go : (s u : Bool) → f is "S" ≡ s → f is "U" ≡ u → cond s (Some StrictlyFair) (cond u (Some Unfair) None) ≡ Some x → f ≡ fairness_text x
    go true u p q e = same_text f (bytes "S") p ∙ ap fairness_text (same_Some StrictlyFair x e)
    go false true p q e = same_text f (bytes "U") q ∙ ap fairness_text (same_Some Unfair x e)
    go false false p q e = absurd (said-not None x e refl)

fairness-back : (x : Fairness) → fairness_of (fairness_text x) ≡ Some x
unfolding same
fairness-back StrictlyFair = refl
fairness-back Unfair = refl

maker-said : (f : List ℕ) (m : Option TaskId) → maker_of f ≡ Some m → (f ≡ maker_text m) × MakerFits m
maker-said f m = go (f is "-") refl (number_of f) refl
  where
    go : (d : Bool) → f is "-" ≡ d → (o : Option ℕ) → number_of f ≡ o → cond d (Some None) (option_map (λ t. Some (record { 0 = t })) o) ≡ Some m
        → (f ≡ maker_text m) × MakerFits m
    go true p o q e = rw (← same_Some None m e) (same_text f (bytes "-") p, tt)
    go false p None q e = absurd (said-not None m e refl)
    go false p (Some t) q e = rw (← same_Some (Some (record { 0 = t })) m e) (printed-read f t q, read_fits f t q)

dash_says-nothing : number_of (bytes "-") ≡ None
unfolding number_of no_leading_zero all_digits
dash_says-nothing = refl

maker-back : (m : Option TaskId) → MakerFits m → maker_of (maker_text m) ≡ Some m
unfolding same
maker-back None h = refl
maker-back (Some t) h = by_test (digits t.0 is "-") (λ e. absurd (not_dash e)) (λ e. rw (e, read-printed t.0 h))
  where
    not_dash : digits t.0 is "-" ≡ true → ⊥
    not_dash e = said-not (number_of (digits t.0)) t.0 (read-printed t.0 h) (ap number_of (same_text (digits t.0) (bytes "-") e) ∙ dash_says-nothing)

numbers-said : (fs : List (List ℕ)) (ns : List ℕ) → numbers_of fs ≡ Some ns → (fs ≡ map digits ns) × AllFit ns
unfolding numbers_of
numbers-said [] ns e = rw (← same_Some [] ns e) (refl, tt)
numbers-said (f ∷ fs) ns e =
    said_in (number_of f) _ e λ n p d.
    said_in (numbers_of fs) _ d λ ms q c.
    let r = numbers-said fs ms q in
    rw (← same_Some (n ∷ ms) ns c) (rw (printed-read f n p, r.0), (read_fits f n p, r.1))

numbers-back : (ns : List ℕ) → AllFit ns → numbers_of (map digits ns) ≡ Some ns
unfolding numbers_of
numbers-back [] h = refl
numbers-back (n ∷ ns) h = rw (read-printed n h.0, numbers-back ns h.1)

clocks_from : (k : ℕ) (ns cs : List ℕ) → clocks_said k ns ≡ Some cs → ClocksFrom k ns cs
clocks_from k [] cs e = sym (same_Some (spawned k) cs e)
clocks_from k (n ∷ ns) cs e =
    let s = said_if (eqb (length (n ∷ ns)) (k * k)) (n ∷ ns) cs e in
    (eqb-true (length (n ∷ ns)) (k * k) s.0, sym s.1)

clocks-back : (k : ℕ) (ns cs : List ℕ) → ClocksFrom k ns cs → clocks_said k ns ≡ Some cs
clocks-back k [] cs e = rw e
clocks-back k (n ∷ ns) cs e = rw (eq-eqb (length (n ∷ ns)) (k * k) e.0, e.1)

-- THE FIELDS OF A FIRST LINE say a start exactly when they have this form.
pub fields-said : (fs : List (List ℕ)) (a : Start) → start_by fs ≡ Some a → StartFields fs a
unfolding start_by
fields-said [] a e = absurd (said-not None a e refl)
fields-said (f ∷ []) a e = absurd (said-not None a e refl)
fields-said (f ∷ n ∷ []) a e = absurd (said-not None a e refl)
fields-said (f ∷ n ∷ m ∷ []) a e = absurd (said-not None a e refl)
fields-said (f ∷ n ∷ m ∷ k ∷ cs) a e =
    said_in (fairness_of f) _ e λ fairness e₁ d₁.
    said_in (number_of n) _ d₁ λ stock e₂ d₂.
    said_in (maker_of m) _ d₂ λ maker e₃ d₃.
    said_in (number_of k) _ d₃ λ tasks e₄ d₄.
    said_in (numbers_of cs) _ d₄ λ entries e₅ d₅.
    said_in (clocks_said tasks entries) _ d₅ λ clocks e₆ d₆.
    let p = maker-said m maker e₃ in
    let q = numbers-said cs entries e₅ in
    rw (← same_Some (start_with fairness stock maker tasks clocks) a d₆)
    record {
      entries = entries;
      form = rw (fairness-said f fairness e₁, printed-read n stock e₂, p.0, printed-read k tasks e₄, q.0);
      stock-fits = read_fits n stock e₂;
      maker-fits = p.1;
      tasks-fit = read_fits k tasks e₄;
      entries_fit = q.1;
      clocks = clocks_from tasks entries clocks e₆;
    }

pub fields_back : (fs : List (List ℕ)) (a : Start) → StartFields fs a → start_by fs ≡ Some a
unfolding start_by
fields_back fs a r = rw (r.form, fairness-back a.fairness, read-printed a.stock r.stock-fits, maker-back a.maker r.maker-fits, read-printed a.tasks r.tasks-fit, numbers-back r.entries r.entries_fit, clocks-back a.tasks r.entries a.clocks r.clocks)

-- The line.

fairness-free : (x : Fairness) → before space (fairness_text x) ≡ fairness_text x
unfolding before
fairness-free StrictlyFair = refl
fairness-free Unfair = refl

maker-free : (m : Option TaskId) → before space (maker_text m) ≡ maker_text m
unfolding before
maker-free None = refl
maker-free (Some t) = digits-free t.0

entries-free : (ns : List ℕ) → Free space (map digits ns)
entries-free [] = tt
entries-free (n ∷ ns) = (digits-free n, entries-free ns)

fields-joined : (fs : List (List ℕ)) (a : Start) → StartFields fs a → fields (joined_by space fs) ≡ fs
fields-joined fs a r =
    rw r.form
    (parts-joined space (fairness_text a.fairness) (digits a.stock ∷ maker_text a.maker ∷ digits a.tasks ∷ map digits r.entries)
    (fairness-free a.fairness, (digits-free a.stock, (maker-free a.maker, (digits-free a.tasks, entries-free r.entries)))))

-- A LINE says a start exactly when it has this form.
pub line-said : (line : List ℕ) (a : Start) → start_of line ≡ Some a → StartLine line a
line-said line a e = record { written = fields line; form = sym (joined-parts space line); says = fields-said (fields line) a e }

pub line-back : (line : List ℕ) (a : Start) → StartLine line a → start_of line ≡ Some a
line-back line a r = rw (r.form, fields-joined r.written a r.says) (fields_back r.written a r.says)

-- Document 01's start: four fields, and "Starting clocks are all zero".
unfoldable pub level_start_by : List (List ℕ) → Option Start
level_start_by [] = None
level_start_by (f ∷ []) = None
level_start_by (f ∷ n ∷ []) = None
level_start_by (f ∷ n ∷ m ∷ []) = None
level_start_by (f ∷ n ∷ m ∷ k ∷ []) = do
  fairness ← fairness_of f
  stock ← number_of n
  maker ← maker_of m
  tasks ← number_of k
  Some (start_with fairness stock maker tasks (replicate (tasks * tasks) 0))
level_start_by (f ∷ n ∷ m ∷ k ∷ c ∷ cs) = None

abbrev pub level_start_of : List ℕ → Option Start
level_start_of line = level_start_by (fields line)

-- the bytes of n entries 0 behind a line
unfoldable pub zero_entries : ℕ → List ℕ
zero_entries zero = []
zero_entries (suc n) = bytes " 0" ++ zero_entries n

zero-fields : (n : ℕ) → fields (bytes "0" ++ zero_entries n) ≡ replicate (suc n) (bytes "0")
unfolding zero_entries parts
zero-fields zero = refl
zero-fields (suc n) = ap (λ (fs : List (List ℕ)). bytes "0" ∷ fs) (zero-fields n)

fields-zeros : (line : List ℕ) (n : ℕ) → fields (line ++ zero_entries n) ≡ fields line ++ replicate n (bytes "0")
unfolding zero_entries
fields-zeros line zero = rw (append-nil line) (sym (append-nil (fields line)))
fields-zeros line (suc n) = parts_append space line (bytes "0" ++ zero_entries n) ∙ ap (λ (fs : List (List ℕ)). fields line ++ fs) (zero-fields n)

numbers-zeros : (n : ℕ) → numbers_of (replicate n (bytes "0")) ≡ Some (replicate n 0)
unfolding numbers_of number_of no_leading_zero all_digits value_from
numbers-zeros zero = refl
numbers-zeros (suc n) = rw (numbers-zeros n)

no_entry : (l : List ℕ) → length l ≡ 0 → l ≡ []
no_entry [] e = refl
no_entry (x ∷ l) e = absurd (omega arith)

clocks-zeros : (k : ℕ) → clocks_said k (replicate (k * k) 0) ≡ Some (replicate (k * k) 0)
clocks-zeros k = go (k * k) refl
  where
    go : (n : ℕ) → k * k ≡ n → clocks_said k (replicate n 0) ≡ Some (replicate n 0)
    go zero e = rw (no_entry (spawned k) (spawned-length k ∙ e))
    go (suc n) e = clocks-back k (replicate (suc n) 0) (replicate (suc n) 0) (length-replicate (suc n) 0 ∙ sym e, refl)

level_fields : (fs : List (List ℕ)) (a : Start) → level_start_by fs ≡ Some a → start_by (fs ++ replicate (a.tasks * a.tasks) (bytes "0")) ≡ Some a
unfolding level_start_by start_by
level_fields [] a e = absurd (said-not None a e refl)
level_fields (f ∷ []) a e = absurd (said-not None a e refl)
level_fields (f ∷ n ∷ []) a e = absurd (said-not None a e refl)
level_fields (f ∷ n ∷ m ∷ []) a e = absurd (said-not None a e refl)
level_fields (f ∷ n ∷ m ∷ k ∷ []) a e =
    said_in (fairness_of f) _ e λ fairness e₁ d₁.
    said_in (number_of n) _ d₁ λ stock e₂ d₂.
    said_in (maker_of m) _ d₂ λ maker e₃ d₃.
    said_in (number_of k) _ d₃ λ tasks e₄ d₄.
    rw (← same_Some (start_with fairness stock maker tasks (replicate (tasks * tasks) 0)) a d₄, e₁, e₂, e₃, e₄, numbers-zeros (tasks * tasks), clocks-zeros tasks)
level_fields (f ∷ n ∷ m ∷ k ∷ c ∷ cs) a e = absurd (said-not None a e refl)

-- ALL ZEROS ARE DOCUMENT 01'S START: the start that document 01 has for a line is that of the line with all entries 0 behind it.
pub level : (line : List ℕ) (a : Start) → level_start_of line ≡ Some a → start_of (line ++ zero_entries (a.tasks * a.tasks)) ≡ Some a
level line a e = rw (fields-zeros line (a.tasks * a.tasks)) (level_fields (fields line) a e)

-- the same start with spawned clocks
abbrev pub with_spawned : Start → Start
with_spawned a = start_with a.fairness a.stock a.maker a.tasks (spawned a.tasks)

plain-fields : (fs : List (List ℕ)) → length fs ≤ 4 → start_by fs ≡ option_map with_spawned (level_start_by fs)
unfolding level_start_by start_by numbers_of
plain-fields [] h = refl
plain-fields (f ∷ []) h = refl
plain-fields (f ∷ n ∷ []) h = refl
plain-fields (f ∷ n ∷ m ∷ []) h = refl
plain-fields (f ∷ n ∷ m ∷ k ∷ []) h =
    said_changed with_spawned (fairness_of f) _ _ λ fairness.
    said_changed with_spawned (number_of n) _ _ λ stock.
    said_changed with_spawned (maker_of m) _ _ λ maker.
    said_changed with_spawned (number_of k) _ _ λ tasks. refl
plain-fields (f ∷ n ∷ m ∷ k ∷ c ∷ cs) h = absurd (omega arith)

level_short : (fs : List (List ℕ)) (a : Start) → level_start_by fs ≡ Some a → length fs ≤ 4
unfolding level_start_by
level_short [] a e = omega arith
level_short (f ∷ []) a e = omega arith
level_short (f ∷ n ∷ []) a e = omega arith
level_short (f ∷ n ∷ m ∷ []) a e = omega arith
level_short (f ∷ n ∷ m ∷ k ∷ []) a e = omega arith
level_short (f ∷ n ∷ m ∷ k ∷ c ∷ cs) a e = absurd (said-not None a e refl)

-- NONE WRITTEN MEANS SPAWNED: the start of a line that document 01 reads is document 01's, but for spawned clocks,
pub unwritten : (line : List ℕ) (a : Start) → level_start_of line ≡ Some a → start_of line ≡ Some (with_spawned a)
unwritten line a e = plain-fields (fields line) (level_short (fields line) a e) ∙ ap (option_map with_spawned) e

-- and a line of at most four fields that document 01 does not read is bad.
pub unwritten_bad : (line : List ℕ) → length (fields line) ≤ 4 → level_start_of line ≡ None → start_of line ≡ None
unwritten_bad line h e = plain-fields (fields line) h ∙ ap (option_map with_spawned) e

-- BAD OR REFUSED: a line that says a start says all its clocks,
pub clocks-whole : (line : List ℕ) (a : Start) → start_of line ≡ Some a → length a.clocks ≡ a.tasks * a.tasks
clocks-whole line a e = let r = fields-said (fields line) a e in go r.entries r.clocks
  where
    go : (ns : List ℕ) → ClocksFrom a.tasks ns a.clocks → length a.clocks ≡ a.tasks * a.tasks
    go [] g = rw g (spawned-length a.tasks)
    go (n ∷ ns) g = rw g.1 g.0

-- so that 12's clause on the clock list is met by no script.
pub refused-first : (line : List ℕ) (a : Start) → start_of line ≡ Some a
    → refuses12 a ≡ (eqb a.tasks 0 || ltb max_tasks a.tasks || not_below a.tasks a.maker)
unfolding refuses12
refused-first line a e = rw (eq-eqb (length a.clocks) (a.tasks * a.tasks) (clocks-whole line a e), or-false)

-- A START THAT A LINE SAYS FITS, as promise 6 asks of a start.
pub line-fits : (line : List ℕ) (a : Start) → start_of line ≡ Some a → StartFits a
line-fits line a e = let r = fields-said (fields line) a e in record { stock = r.stock-fits; clocks = go r.entries r.entries_fit r.clocks }
  where
    go : (ns : List ℕ) → AllFit ns → ClocksFrom a.tasks ns a.clocks → AllFit a.clocks
    go [] h g = rw g (spawned-fit a.tasks largest (omega (arith, (fields-said (fields line) a e).tasks-fit)))
    go (n ∷ ns) h g = rw g.1 h
