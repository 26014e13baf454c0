-- Tasks in their words: one read, one written, the others as they were.
use Prim.Native.Nat.{ℕ, ◌+◌, ◌*◌, ◌≤◌, ◌<◌}
use native.Mathlib.Nat.{zero-add}
use borrow.Author.Tests.{eqb-true, eqb-false}
use native.Mathlib.Omega.{arith}
use mathlib.Core.Path.{◌≡◌, refl, sym, ap, ◌∙◌}
use mathlib.Core.Bool.{Bool, true, false}
use mathlib.Core.List.{List}
use lib.Dec.{eqb}
use lib.ListN.{length, get_or, set, length-set}
use lib.Seq.{get_or-set_same, get_or-set_other, set_out}
use Rattle.rules.specs.declared.TaskState.{TaskState}
use Rattle.rules.specs.Sizes.{max_tasks}
use Rattle.rules.specs.Task.{is_finished}
use Rattle.splitting.specs.Plain.{Task as TaskRule, no_task, unblocked, wakened}
use Rattle.tables.proofs.Tables.{table-set, table_get, table-length, table_past}
use Rattle.records.specs.declared.Task.{Task}
use Rattle.records.specs.View.{task_seen}
use Rattle.words.specs.View.{state_of, state_word, marked, mark_word, task_words, task_in, tasks_of, task_stands, TasksStand, TasksShow}
use Rattle.words.proofs.Single.{mark_back, state-back, mark_stands, state-stands}

pub task-there : (w : List ℕ) (n t : ℕ) → t < n → get_or (tasks_of n w) t no_task ≡ task_in w t
unfolding tasks_of
task-there w n t l = table_get (task_in w) no_task n t 0 l ∙ ap (task_in w) (zero-add t)

pub task_past : (w : List ℕ) (n t : ℕ) → n ≤ t → get_or (tasks_of n w) t no_task ≡ no_task
unfolding tasks_of
task_past w n t l = table_past (task_in w) no_task n t l

pub length-tasks : (w : List ℕ) (n : ℕ) → length (tasks_of n w) ≡ n
unfolding tasks_of
length-tasks w n = table-length (task_in w) no_task n 0

-- no word written
pub unchanged : (n : ℕ) (w : List ℕ) (ts : List TaskRule) → tasks_of n w ≡ ts → TasksShow n w w ts
unchanged n w ts e = record { view = e; stand = λ h. h }

-- the same tasks, said otherwise
pub said : (n : ℕ) (after before : List ℕ) (ts us : List TaskRule) → TasksShow n after before ts → ts ≡ us → TasksShow n after before us
said n after before ts us s e = record { view = s.view ∙ e; stand = s.stand }

-- ---- writing
module _ (w : List ℕ) (n t : ℕ) (s : TaskState) (m : Bool) (inside : t < n) (few : n ≤ max_tasks) (sized : length w ≡ max_tasks * task_words) where
  abbrev one : List ℕ
  one = set w (2 * t) (state_word s)

  abbrev two : List ℕ
  two = set one (2 * t + 1) (mark_word m)

  long : length one ≡ length w
  long = length-set w (2 * t) (state_word s)

  first : get_or two (2 * t) 0 ≡ state_word s
  first = get_or-set_other one (2 * t + 1) (2 * t) (mark_word m) 0 (λ q. omega arith) ∙ get_or-set_same w (2 * t) (state_word s) 0 (omega arith)

  second : get_or two (2 * t + 1) 0 ≡ mark_word m
  second = get_or-set_same one (2 * t + 1) (mark_word m) 0 (omega (arith, long))

  kept : (p : ℕ) → (p ≡ 2 * t → ⊥) → (p ≡ 2 * t + 1 → ⊥) → get_or two p 0 ≡ get_or w p 0
  kept p a b = get_or-set_other one (2 * t + 1) p (mark_word m) 0 b ∙ get_or-set_other w (2 * t) p (state_word s) 0 a

  other : (k : ℕ) → (k ≡ t → ⊥) → (get_or two (2 * k) 0 ≡ get_or w (2 * k) 0) × (get_or two (2 * k + 1) 0 ≡ get_or w (2 * k + 1) 0)
  other k d = (kept (2 * k) (λ q. d (omega arith)) (λ q. omega arith), kept (2 * k + 1) (λ q. omega arith) (λ q. d (omega arith)))

  stored : tasks_of n two ≡ set (tasks_of n w) t (record { state = s; woken = m })
  unfolding tasks_of
  stored =
      table-set (task_in w) (task_in two) n t 0 inside (λ k d. let o = other k (λ q. d (q ∙ sym (zero-add t))) in rw (o.0, o.1))
      ∙ rw (zero-add t, first, second, state-back s, mark_back m)

  still : TasksStand n w → TasksStand n two
  still h k l = by_place (eqb k t) refl
    where
      by_place : (b : Bool) → eqb k t ≡ b → task_stands two k ≡ true
      by_place true e = ap (λ (j : ℕ). task_stands two j) (eqb-true k t e) ∙ rw (first, second, state-stands s, mark_stands m)
      by_place false e = let o = other k (eqb-false k t e) in rw (o.0, o.1) (h k l)

  pub put_there : (after : List ℕ) (x y : ℕ) → x ≡ state_word s → y ≡ mark_word m → after ≡ set (set w (2 * t) x) (2 * t + 1) y → TasksShow n after w (set (tasks_of n w) t (record { state = s; woken = m }))
  put_there after x y ex ey p =
      let q : after ≡ two = p ∙ (λ i. set (set w (2 * t) (ex i)) (2 * t + 1) (ey i)) in
      record { view = ap (tasks_of n) q ∙ stored; stand = λ h k l. ap (λ (z : List ℕ). task_stands z k) q ∙ still h k l }

pub put_past : (w : List ℕ) (n t : ℕ) (a : TaskRule) → n ≤ t → TasksShow n w w (set (tasks_of n w) t a)
put_past w n t a l = record { view = sym (set_out (tasks_of n w) t a (omega (arith, length-tasks w n))); stand = λ h. h }

-- ---- reading
pub read-there : (w : List ℕ) (n t : ℕ) (s : TaskState) (m : Bool) → t < n → s ≡ state_of (get_or w (2 * t) 0) → m ≡ marked (get_or w (2 * t + 1) 0) → record { state = s; woken = m } ≡ get_or (tasks_of n w) t no_task
read-there w n t s m l es em = (λ i. record { state = es i; woken = em i }) ∙ sym (task-there w n t l)

pub read_past : (w : List ℕ) (n t : ℕ) (a : TaskRule) → n ≤ t → a ≡ no_task → a ≡ get_or (tasks_of n w) t no_task
read_past w n t a l e = e ∙ sym (task_past w n t l)

pub read-finished : (f : Bool) (a : Task) (b : TaskRule) → f ≡ is_finished a.state → task_seen a ≡ b → f ≡ is_finished b.state
read-finished f a b e v = e ∙ ap (λ (z : TaskRule). is_finished z.state) v

pub roused-shows : (w after : List ℕ) (n t : ℕ) (a b d : Task) → task_seen a ≡ get_or (tasks_of n w) t no_task → task_seen b ≡ unblocked (task_seen a) → task_seen d ≡ wakened (task_seen b)
    → TasksShow n after w (set (tasks_of n w) t (task_seen d)) → TasksShow n after w (set (tasks_of n w) t (wakened (unblocked (get_or (tasks_of n w) t no_task))))
roused-shows w after n t a b d ea eb ed p =
    let e : task_seen d ≡ wakened (unblocked (get_or (tasks_of n w) t no_task)) = ed ∙ ap (λ (z : TaskRule). wakened z) eb ∙ ap (λ (z : TaskRule). wakened (unblocked z)) ea in
    record { view = p.view ∙ ap (λ (z : TaskRule). set (tasks_of n w) t z) e; stand = p.stand }
