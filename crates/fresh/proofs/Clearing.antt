-- Words that are all 0, and what they stand for.
use Rattle.std.specs.Prelude.{None}
use Prim.Native.Nat.{ℕ, zero, suc, ◌+◌, ◌*◌, ◌-◌, ◌≤◌, ◌<◌}
use native.Mathlib.Decide.{dec_lt}
use native.Mathlib.Omega.{arith}
use mathlib.Core.Path.{◌≡◌, refl, sym, ◌∙◌}
use mathlib.Core.List.{List}
use lib.ListN.{length, get_or, drop, replicate, length-take, get_or-replicate, get_or-eq_default}
use lib.Seq.{get_or-take, get_or-drop, ext_get_or}
use Rattle.rules.specs.Sizes.{width, slot_count}
use Rattle.rules.specs.Clock.{empty}
use Rattle.splitting.specs.Plain.{no_task}
use Rattle.tables.specs.Table.{row, table}
use Rattle.tables.proofs.Rows.{row-length}
use Rattle.words.specs.View.{request_words, decoded, slot_in, slots_of, row_stands, SlotsStand, task_in, tasks_of, TasksStand}
use Rattle.fresh.specs.Starting.{Cleared}

-- what `fill` ensures: each word below the last is 0, and the last
pub filled : (xs ys : List ℕ) → length xs ≡ length ys → ((k d : ℕ) → 0 ≤ k → k < length ys - 1 → get_or xs k d ≡ 0) → (0 < length ys → (d : ℕ) → get_or xs (length ys - 1) d ≡ 0) → Cleared xs ys
filled xs ys sized below last = record { sized = sized; zeros = λ k. at_place k }
  where
    at_place : (k : ℕ) → get_or xs k 0 ≡ 0
    at_place k = elim (dec_lt k (length ys - 1)) [
      | yes l ↦ below k 0 (omega arith) l
      | no l ↦ elim (dec_lt k (length ys)) [
        | yes m ↦ let e : k ≡ length ys - 1 = omega arith in rw e (last (omega arith) 0)
        | no m ↦ get_or-eq_default xs 0 (omega arith)
      ]
    ]

-- a table of nothing but one thing
table_same : {A : Type 0} (f : ℕ → A) (a : A) → ((k : ℕ) → f k ≡ a) → (n i : ℕ) → table f i n ≡ replicate n a
unfolding table
table_same f a h zero i = refl
table_same f a h (suc n) i = rw (h i, table_same f a h n (suc i))

module _ (xs ys : List ℕ) (c : Cleared xs ys) where
  abbrev z : (i : ℕ) → get_or xs i 0 ≡ 0
  z = c.zeros

  -- every entry of a row
  row_cleared : (w p i : ℕ) → get_or (row w xs p) i 0 ≡ 0
  row_cleared w p i = elim (dec_lt i w) [
    | yes l ↦ get_or-take w (drop (p * w) xs) i 0 l ∙ get_or-drop (p * w) xs i 0 ∙ z (p * w + i)
    | no l ↦ get_or-eq_default (row w xs p) 0 (simp length-take (omega arith))
  ]

  pub slots-free : slots_of xs ≡ replicate slot_count None
  unfolding slots_of decoded
  slots-free = table_same (slot_in xs) None (λ k. rw (row_cleared request_words k 0)) slot_count 0

  pub slots-stand : SlotsStand xs
  unfolding row_stands
  slots-stand k = rw (row_cleared request_words k 0)

  pub tasks_runnable : (n : ℕ) → tasks_of n xs ≡ replicate n no_task
  unfolding tasks_of
  tasks_runnable n = table_same (task_in xs) no_task (λ k. rw (z (2 * k), z (2 * k + 1))) n 0

  pub tasks-stand : (n : ℕ) → TasksStand n xs
  tasks-stand n t l = rw (z (2 * t), z (2 * t + 1))

  -- the clock of the last taking is empty
  pub last_empty : length ys ≡ width → row width xs 0 ≡ empty width
  unfolding empty
  last_empty e =
      let n : length (row width xs 0) ≡ width = row-length width xs 0 (omega (arith, c.sized)) in
      ext_get_or 0 (row width xs 0) (empty width) n (λ i l. row_cleared width 0 i ∙ sym (get_or-replicate width i 0 0 (omega arith)))
