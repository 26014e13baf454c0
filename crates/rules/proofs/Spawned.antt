-- The clocks of tasks that task 0 spawned: the story of the rules, and what it comes to.
use Prim.Native.Nat.{ℕ, zero, suc, ◌+◌, ◌-◌, ◌*◌, ◌≤◌, ◌<◌, zero-le}
use native.Mathlib.Nat.{zero-mul, suc-mul, mul-le-mul_right}
use native.Mathlib.Numerals.{add-one}
use native.Mathlib.Omega.{arith}
use native.Mathlib.Decide.{dec_lt}
use mathlib.Core.Path.{◌≡◌, refl, ap, sym, ◌∙◌}
use mathlib.Core.List.{List, [], ◌∷◌, ◌++◌, append_assoc, append-nil}
use lib.ListN.{length, get_or, take, drop, length-append, length-drop, replicate-append-replicate}
use lib.Seq.{take_all, take-append-le, drop-append-le, take_at, drop_at, drop-drop}
use Rattle.rules.specs.Sizes.{width}
use Rattle.rules.specs.Clock.{Clock, tick, empty}
use Rattle.rules.specs.Task.{no_task}
use Rattle.rules.specs.Fresh.{fresh_tasks}
use Rattle.rules.specs.Spawning.{family, rows_of, spawned}
use Rattle.rules.specs.Promises.{Each}
use Rattle.rules.proofs.Clocks.{◌⊑◌, at_most_itself, length-empty}
use Rattle.rules.proofs.Eaches.{each_append, each_replicate}
use Rattle.rules.proofs.Laws.{task-row}

-- task 0's clock after n ticks, with w entries behind the first
abbrev pub after_ticks : ℕ → ℕ → Clock
after_ticks w n = n ∷ empty w

-- the clocks of k children: the first has 1 in its first entry, the next 2, and so on
unfoldable pub children : ℕ → ℕ → List Clock
children w zero = []
children w (suc k) = children w k ++ after_ticks w (suc k) ∷ []

tick-first : (w n : ℕ) → tick 0 (after_ticks w n) ≡ after_ticks w (suc n)
unfolding tick
tick-first w n = rw (add-one n)

-- THE STORY'S CLOSED FORM: after k children task 0 ticked k times, and child i has the clock with i in its first entry.
pub family-closed : (w k : ℕ) → family (suc w) k ≡ record { parent = after_ticks w k; children = children w k }
unfolding family children empty
family-closed w zero = refl
family-closed w (suc k) = rw (family-closed w k, tick-first w k)

pub rows_snoc : (cs : List Clock) (c : Clock) → rows_of (cs ++ c ∷ []) ≡ rows_of cs ++ c
unfolding rows_of
rows_snoc [] c = append-nil c
rows_snoc (d ∷ cs) c = ap (λ (l : List ℕ). d ++ l) (rows_snoc cs c) ∙ sym (append_assoc d (rows_of cs) c)

-- row by row: n - 1 ticks of task 0, then the children
pub spawned-closed : (w : ℕ) → spawned (suc w) ≡ after_ticks w w ++ rows_of (children w w)
unfolding spawned rows_of
spawned-closed w =
    let e : suc w - 1 ≡ w = omega arith in
    rw (e, family-closed w w)

-- The number of entries.

pub children-length : (w k : ℕ) → length (rows_of (children w k)) ≡ k * suc w
unfolding children rows_of
children-length w zero = sym (zero-mul (suc w))
children-length w (suc k) =
    rw (rows_snoc (children w k) (after_ticks w (suc k)), length-append (rows_of (children w k)) (after_ticks w (suc k)))
    (omega (arith, children-length w k, length-empty w, suc-mul k (suc w)))

-- n tasks are spawned with n * n entries, none where there is no task.
pub spawned-length : (n : ℕ) → length (spawned n) ≡ n * n
unfolding spawned family rows_of empty
spawned-length zero = refl
spawned-length (suc w) =
    rw (spawned-closed w, length-append (after_ticks w w) (rows_of (children w w)))
    (omega (arith, children-length w w, length-empty w, suc-mul w (suc w)))

-- The rows.

-- the clock that task i of n starts with
abbrev pub spawned_row : ℕ → ℕ → Clock
spawned_row n i = take n (drop (i * n) (spawned n))

-- row j of n entries, with more entries behind it, and as the last
row_within : (n j : ℕ) (rows more : List ℕ) → suc j * n ≤ length rows → take n (drop (j * n) (rows ++ more)) ≡ take n (drop (j * n) rows)
row_within n j rows more h =
    let l : j * n + n ≤ length rows = omega (arith, suc-mul j n) in
    let m : n ≤ length (drop (j * n) rows) = rw length-drop (omega arith) in
    rw (drop-append-le (j * n) rows more (omega arith), take-append-le n (drop (j * n) rows) more m)

row_last : (n j : ℕ) (rows last : List ℕ) → length rows ≡ j * n → length last ≡ n → take n (drop (j * n) (rows ++ last)) ≡ last
row_last n j rows last e f = rw (drop_at rows last (j * n) e) (take_all n last (omega arith))

child_row : (w k j : ℕ) → j < k → take (suc w) (drop (j * suc w) (rows_of (children w k))) ≡ after_ticks w (suc j)
unfolding children
child_row w zero j h = absurd (omega arith)
child_row w (suc k) j h =
    let before = rows_of (children w k) in
    let last = after_ticks w (suc k) in
    rw (rows_snoc (children w k) last)
    (elim (dec_lt j k) [
      | yes l ↦ row_within (suc w) j before last (omega (arith, children-length w k, mul-le-mul_right (suc w) l)) ∙ child_row w k j l
      | no l ↦
          let e : k ≡ j = omega arith in
          rw (← e) (row_last (suc w) k before last (children-length w k) (ap suc (length-empty w)))
    ])

-- Task 0 of n ticked n - 1 times, once before each child.
pub row_first : (w : ℕ) → spawned_row (suc w) 0 ≡ after_ticks w w
row_first w = rw (zero-mul (suc w), spawned-closed w) (take_at (after_ticks w w) (rows_of (children w w)) (suc w) (ap suc (length-empty w)))

-- Child i has the clock that task 0 had after i ticks.
pub row_child : (w i : ℕ) → 0 < i → i ≤ w → spawned_row (suc w) i ≡ after_ticks w i
row_child w zero l h = absurd (omega arith)
row_child w (suc j) l h =
    let n : suc j * suc w ≡ suc w + j * suc w = omega (arith, suc-mul j (suc w)) in
    rw (n, ← drop-drop (j * suc w) (suc w), spawned-closed w, drop_at (after_ticks w w) (rows_of (children w w)) (suc w) (ap suc (length-empty w)))
    (child_row w w j h)

-- In a fresh state: the row of a task, filled up to the width.
pub spawned-task : (n i : ℕ) → i < n → (get_or (fresh_tasks n n (spawned n)) i no_task).clock ≡ spawned_row n i ++ empty (width - n)
spawned-task n i h = task-row n n i (spawned n) h

filled : (w n : ℕ) → w < width → after_ticks w n ++ empty (width - suc w) ≡ after_ticks (width - 1) n
unfolding empty
filled w n h =
    let e : w + (width - suc w) ≡ width - 1 = omega arith in
    rw (replicate-append-replicate, e)

-- Where there is room for n tasks, task 0 has (n - 1, 0, .., 0), and child i has (i, 0, .., 0), as wide as clocks are.
pub spawned-first : (w : ℕ) → w < width → (get_or (fresh_tasks (suc w) (suc w) (spawned (suc w))) 0 no_task).clock ≡ after_ticks (width - 1) w
spawned-first w h = spawned-task (suc w) 0 (omega arith) ∙ rw (row_first w) (filled w w h)

pub spawned_child : (w i : ℕ) → w < width → 0 < i → i ≤ w → (get_or (fresh_tasks (suc w) (suc w) (spawned (suc w))) i no_task).clock ≡ after_ticks (width - 1) i
spawned_child w i h l m = spawned-task (suc w) i (omega arith) ∙ rw (row_child w i l m) (filled w i h)

-- Their order.

ticks_order : (w m n : ℕ) → m ≤ n → after_ticks w m ⊑ after_ticks w n
unfolding ◌⊑◌
ticks_order w m n h = (h, at_most_itself (empty w))

ticks_apart : (w m n : ℕ) → m < n → after_ticks w m ≡ after_ticks w n → ⊥
ticks_apart w m n h e = let f : m ≡ n = cc in omega arith

-- Task 0's clock is at least each child's,
pub child_below-first : (w i : ℕ) → 0 < i → i ≤ w → spawned_row (suc w) i ⊑ spawned_row (suc w) 0
child_below-first w i l h = rw (row_child w i l h, row_first w) (ticks_order w i w h)

-- each child's is strictly below the next child's,
pub child_below-next : (w i : ℕ) → 0 < i → i < w → (spawned_row (suc w) i ⊑ spawned_row (suc w) (suc i)) × (spawned_row (suc w) i ≡ spawned_row (suc w) (suc i) → ⊥)
child_below-next w i l h =
    rw (row_child w i l (omega arith), row_child w (suc i) (omega arith) h)
    (ticks_order w i (suc i) (omega arith), ticks_apart w i (suc i) (omega arith))

-- and the last child's is task 0's own.
pub last_child_level : (w : ℕ) → 0 < w → spawned_row (suc w) w ≡ spawned_row (suc w) 0
last_child_level w l = row_child w w l (omega arith) ∙ sym (row_first w)

-- No task, one, two and three.
pub spawned-few : (spawned 0 ≡ [])
    × (spawned 1 ≡ 0 ∷ [])
    × (spawned 2 ≡ 1 ∷ 0 ∷ 1 ∷ 0 ∷ [])
    × (spawned 3 ≡ 2 ∷ 0 ∷ 0 ∷ 1 ∷ 0 ∷ 0 ∷ 2 ∷ 0 ∷ 0 ∷ [])
unfolding spawned family rows_of tick empty
spawned-few = (refl, refl, refl, refl)

-- No entry is above the number of children.

ticks-fit : (w n m : ℕ) → n ≤ m → Each (λ (x : ℕ). x ≤ m) (after_ticks w n)
unfolding empty
ticks-fit w n m h = (h, each_replicate (λ (x : ℕ). x ≤ m) w 0 zero-le)

children-fit : (w k m : ℕ) → k ≤ m → Each (λ (x : ℕ). x ≤ m) (rows_of (children w k))
unfolding children rows_of
children-fit w zero m h = tt
children-fit w (suc k) m h =
    rw (rows_snoc (children w k) (after_ticks w (suc k)))
    (each_append (λ (x : ℕ). x ≤ m) (rows_of (children w k)) (after_ticks w (suc k)) (children-fit w k m (omega arith)) (ticks-fit w (suc k) m h))

pub spawned-fit : (n m : ℕ) → n ≤ suc m → Each (λ (x : ℕ). x ≤ m) (spawned n)
unfolding spawned family rows_of empty
spawned-fit zero m h = tt
spawned-fit (suc w) m h =
    let l : w ≤ m = omega arith in
    rw (spawned-closed w) (each_append (λ (x : ℕ). x ≤ m) (after_ticks w w) (rows_of (children w w)) (ticks-fit w w m l) (children-fit w w m l))
