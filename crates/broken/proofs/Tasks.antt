-- Words of tasks that stand for nothing: those of all tasks together show it.
use Prim.Native.Nat.{ℕ, suc, ◌+◌, ◌*◌, ◌≤◌, ◌^◌}
use native.Mathlib.Nat.{zero-add}
use native.Mathlib.Numerals.{add-one}
use native.Mathlib.Omega.{arith}
use mathlib.Core.Path.{◌≡◌, refl, ◌∙◌}
use mathlib.Core.Bool.{Bool, true, false, not, ◌&&◌, ◌||◌}
use mathlib.Core.List.{List, [], ◌∷◌}
use borrow.Author.Tests.{ltb-false, le-ltb, le-leb, leb-true, not-false}
use lib.Bits.{bit_or, or_lt, or_add_and, and_le_l, and_le_r}
use lib.Dec.{ltb}
use lib.ListN.{get_or}
use Rattle.rules.specs.Broken.{any_of}
use Rattle.rules.proofs.Bools.{neither, ◌nor◌, both}
use Rattle.rules.proofs.Queues.{any_append}
use Rattle.splitting.proofs.Broken.{same_test}
use Rattle.tables.specs.Table.{table}
use Rattle.tables.proofs.Tables.{table_more}
use Rattle.words.specs.View.{is_state, is_mark, task_stands}
use Rattle.broken.specs.Broken.{stray_tasks}

-- two words together are past a number of ones where one of them is
module _ (k n : ℕ) (e : suc n ≡ 2 ^ k) (a b : ℕ) where
  left : a ≤ bit_or a b
  left = omega (arith, or_add_and a b, and_le_r a b)

  right : b ≤ bit_or a b
  right = omega (arith, or_add_and a b, and_le_l a b)

  or_past : ltb n (bit_or a b) ≡ ltb n a || ltb n b
  or_past =
      same_test (ltb n (bit_or a b)) (ltb n a || ltb n b)
      (λ f. let h = ltb-false n (bit_or a b) f in le-ltb n a (omega (arith, left)) nor le-ltb n b (omega (arith, right)))
      (λ f.
      let h = neither (ltb n a) (ltb n b) f in
      let l = ltb-false n a h.0 in
      let r = ltb-false n b h.1 in
      le-ltb n (bit_or a b) (omega (arith, or_lt k a b (omega arith) (omega arith))))

-- both words of a task
stray_words : (s m : ℕ) → not (is_state s && is_mark m) ≡ ltb 3 s || ltb 1 m
stray_words s m =
    same_test (not (is_state s && is_mark m)) (ltb 3 s || ltb 1 m)
    (λ f.
    let h = both (is_state s) (is_mark m) (not-false (is_state s && is_mark m) f) in
    le-ltb 3 s (leb-true s 3 h.0) nor le-ltb 1 m (leb-true m 1 h.1))
    (λ f.
    let h = neither (ltb 3 s) (ltb 1 m) f in
    rw (le-leb s 3 (ltb-false 3 s h.0), le-leb m 1 (ltb-false 1 m h.1)))

regroup : (a b c d : Bool) → (a || b) || ((c || d) || false) ≡ (a || c) || (b || d)
regroup true b c d = refl
regroup false true true d = refl
regroup false true false d = refl
regroup false false true d = refl
regroup false false false true = refl
regroup false false false false = refl

module _ (w : List ℕ) where
  one_more_lem : (t : ℕ) → stray_tasks (t + 1) w ≡ stray_tasks t w || (not (task_stands w t) || false)
  unfolding any_of
  one_more_lem t =
      rw (add-one, table_more (task_stands w) (task_stands w) t 0 (λ k l. refl), any_append not (table (task_stands w) 0 t) (task_stands w (0 + t) ∷ []), zero-add t)

  pub stray_start : stray_tasks 0 w ≡ ltb 3 0 || ltb 1 0
  unfolding any_of table
  stray_start = refl

  pub stray_more : (t states marks : ℕ) → stray_tasks t w ≡ ltb 3 states || ltb 1 marks
      → stray_tasks (t + 1) w ≡ ltb 3 (bit_or states (get_or w (2 * t) 0)) || ltb 1 (bit_or marks (get_or w (2 * t + 1) 0))
  stray_more t states marks e =
      let s = get_or w (2 * t) 0 in
      let m = get_or w (2 * t + 1) 0 in
      one_more_lem t
      ∙ rw (e, stray_words s m, or_past 2 3 refl states s, or_past 1 1 refl marks m) (regroup (ltb 3 states) (ltb 1 marks) (ltb 3 s) (ltb 1 m))
