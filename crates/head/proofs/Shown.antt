-- Other words beside a head, and another head beside its words: what is shown then.
use Rattle.std.specs.Prelude.{Option, None}
use Prim.Native.Nat.{ℕ, ◌≤◌}
use mathlib.Core.Path.{◌≡◌, ap, ◌∙◌}
use mathlib.Core.List.{List}
use lib.ListN.{length}
use Rattle.rules.specs.declared.Slot.{Slot}
use Rattle.rules.specs.Sizes.{slot_count}
use Rattle.splitting.specs.Plain.{Plain, Task, Request, with_slots, with_tasks, with_reservation}
use Rattle.queue.specs.declared.Waiters.{Waiters}
use Rattle.words.specs.View.{SlotsShow, TasksShow}
use Rattle.head.specs.declared.Head.{Head}
use Rattle.head.specs.View.{plain_of, Shaped, Shows}

-- the same state, said otherwise
pub shown : (h : Head) (ss ts : List ℕ) (a b : Plain) → Shows h ss ts a → a ≡ b → Shows h ss ts b
shown h ss ts a b s e = record { shaped = s.shaped; view = s.view ∙ e }

-- another stock, queue and reservation
abbrev pub head_with : ℕ → Waiters → Option Slot → Head → Head
head_with n w v h = record { fairness = h.fairness; closed = h.closed; stock = n; waiters = w; reservation = v; tasks = h.tasks }

abbrev pub reserved_as : Option Slot → Head → Head
reserved_as v h = head_with h.stock h.waiters v h

module _ (h : Head) (ss ts : List ℕ) (s : Shaped h ss ts) where
  pub head-shaped : (n : ℕ) (w : Waiters) (v : Option Slot) → w.len ≤ slot_count → Shaped (head_with n w v h) ss ts
  head-shaped n w v l =
      record {
        tasks = s.tasks;
        waiters = l;
        slot-words = s.slot-words;
        task-words = s.task-words;
        slots-stand = s.slots-stand;
        tasks-stand = s.tasks-stand;
      }

  pub slots_shown : (after : List ℕ) (l : List (Option Request)) → SlotsShow after ss l → length after ≡ length ss → Shows h after ts (with_slots l (plain_of h ss ts))
  slots_shown after l k n =
      record {
        shaped =
            record {
              tasks = s.tasks;
              waiters = s.waiters;
              slot-words = n ∙ s.slot-words;
              task-words = s.task-words;
              slots-stand = k.stand s.slots-stand;
              tasks-stand = s.tasks-stand;
            };
        view = ap (λ (l : List (Option Request)). with_slots l (plain_of h ss ts)) k.view;
      }

  pub tasks_shown : (after : List ℕ) (us : List Task) → TasksShow h.tasks after ts us → length after ≡ length ts → Shows h ss after (with_tasks us (plain_of h ss ts))
  tasks_shown after us k n =
      record {
        shaped =
            record {
              tasks = s.tasks;
              waiters = s.waiters;
              slot-words = s.slot-words;
              task-words = n ∙ s.task-words;
              slots-stand = s.slots-stand;
              tasks-stand = k.stand s.tasks-stand;
            };
        view = ap (λ (l : List Task). with_tasks l (plain_of h ss ts)) k.view;
      }

-- other slots and other tasks
pub both_shaped : (h : Head) (ss ts ss' ts' : List ℕ) → Shaped h ss ts → (l : List (Option Request)) (us : List Task) → SlotsShow ss' ss l → length ss' ≡ length ss
    → TasksShow h.tasks ts' ts us → length ts' ≡ length ts → Shaped h ss' ts'
both_shaped h ss ts ss' ts' s l us k n m o = (tasks_shown h ss' ts (slots_shown h ss ts s ss' l k n).shaped ts' us m o).shaped

-- other tasks, and no reservation
pub unreserved_shown : (h : Head) (ss ts : List ℕ) → Shaped h ss ts → (after : List ℕ) (us : List Task) → TasksShow h.tasks after ts us → length after ≡ length ts
    → Shows (reserved_as None h) ss after (with_reservation None (with_tasks us (plain_of h ss ts)))
unreserved_shown h ss ts s after us k n =
    let t = tasks_shown h ss ts s after us k n in
    record { shaped = head-shaped h ss after t.shaped h.stock h.waiters None s.waiters; view = ap (with_reservation None) t.view }
