-- The first ground that holds, and what it tells of the bytes of a bundle.
use Rattle.std.specs.Prelude.{Result, Ok, Err}
use Prim.Native.Nat.{ℕ, ◌+◌, ◌≤◌, ◌<◌}
use native.Mathlib.Decide.{dec_lt}
use native.Mathlib.Omega.{arith}
use mathlib.Core.Path.{◌≡◌, refl, sym, ◌∙◌}
use mathlib.Core.Bool.{Bool, true, false, not, ◌&&◌}
use mathlib.Core.List.{List}
use borrow.Author.Tests.{lt-ltb, le-ltb, ltb-false}
use lib.Dec.{leb, ltb}
use lib.ListN.{length, take, drop}
use Rattle.bundle_rules.specs.declared.Refusal.{Refusal}
use Rattle.bundle_rules.specs.declared.Refusal.TheVariants.{CutShort, TooMany, BadName, BadBodies}
use Rattle.bundle_rules.specs.Numbers.{NumberAt}
use Rattle.bundle_rules.specs.Bundled.{most_scripts, longest, contents_length, well_named}
use Rattle.bundle_rules.specs.Reading.{count_of, rows_of, names_of, sizes_of, in_order, ground_of}
use Rattle.bundle.specs.declared.Contents.{Contents}
use Rattle.bundle.specs.Contents.{stretches}
use Rattle.bundle.specs.Reads.{Judges, Taken, Enough, Whole}

abbrev well_placed : List ℕ → ℕ → ℕ → Bool
well_placed s n more = in_order (contents_length n) (rows_of n (drop 4 s)) (length s + more) && leb (length s + more) longest

pub enough_none : (s : List ℕ) → Enough s 0
enough_none s = record { long = λ h. absurd (omega arith) }

pub enough-long : (s : List ℕ) (more : ℕ) → longest ≤ length s → Enough s more
enough-long s more h = record { long = λ k. h }

-- Before the table is known to be whole.

pub no_count : (s : List ℕ) (more : ℕ) (r : Result Contents Refusal) → Enough s more → length s < 4 → r ≡ Err CutShort → Judges s more r
unfolding ground_of
no_count s more r l h e =
    let z : more ≡ 0 = elim (dec_lt 0 more) [ yes k ↦ absurd (omega (arith, l.long k)) | no k ↦ omega arith ] in
    record { says = rw (lt-ltb (length s + more) (contents_length (count_of s)) (omega arith)) e }

module _ (s : List ℕ) (n more : ℕ) (cut : Bool) (q : NumberAt s 0 n) (k : cut ≡ ltb (length s + more) (contents_length n)) where
  pub table_cut : (r : Result Contents Refusal) → cut ≡ true → r ≡ Err CutShort → Judges s more r
  unfolding ground_of
  table_cut r t e = record { says = rw (← q.value, sym k ∙ t) e }

  pub too_many_lem : (r : Result Contents Refusal) → cut ≡ false → most_scripts < n → r ≡ Err TooMany → Judges s more r
  unfolding ground_of
  too_many_lem r t h e = record { says = rw (← q.value, sym k ∙ t, lt-ltb most_scripts n h) e }

  pub table-whole : cut ≡ false → n ≤ most_scripts → Enough s more → Whole s n more
  table-whole t h l =
      let f : contents_length n ≤ length s + more = ltb-false (length s + more) (contents_length n) (sym k ∙ t) in
      record {
        count = q.value;
        few = h;
        table = elim (dec_lt 0 more) [ yes m ↦ omega (arith, l.long m) | no m ↦ omega arith ];
        enough = l;
      }

-- Where a whole table stands.

module _ (s : List ℕ) (n more : ℕ) (w : Whole s n more) where
  not_cut : ltb (length s + more) (contents_length n) ≡ false
  not_cut = le-ltb (length s + more) (contents_length n) (omega (arith, w.table))

  not_many : ltb most_scripts n ≡ false
  not_many = le-ltb most_scripts n w.few

  module _ (ms : List ℕ) (named : Bool) (e : stretches 16 n ms ≡ names_of (rows_of n (drop 4 s))) (k : named ≡ well_named (stretches 16 n ms)) where
    pub name-refused : (r : Result Contents Refusal) → not named ≡ true → r ≡ Err BadName → Judges s more r
    unfolding ground_of
    name-refused r t v = record { says = rw (← w.count, not_cut, not_many, ← e, ← k, t) v }

    module _ (placed : Bool) (p : placed ≡ well_placed s n more) where
      pub bodies-refused : (r : Result Contents Refusal) → not named ≡ false → not placed ≡ true → r ≡ Err BadBodies → Judges s more r
      unfolding ground_of
      bodies-refused r t u v = record { says = rw (← w.count, not_cut, not_many, ← e, ← k, t, ← p, u) v }

      pub accepted : (ls : List ℕ) → not named ≡ false → not placed ≡ false → take n ls ≡ sizes_of (rows_of n (drop 4 s)) → Judges s more (Ok (record { count = n; names = ms; lengths = ls }))
      unfolding ground_of
      accepted ls t u l =
          let c : Contents = record { count = n; names = ms; lengths = ls } in
          let taken : Taken c s = record { count = w.count; names = rw (← w.count) e; sizes = rw (← w.count) l } in
          record { says = rw (← w.count, not_cut, not_many, ← e, ← k, t, ← p, u) (c, refl, taken) }
