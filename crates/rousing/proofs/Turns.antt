-- The tasks of a queue's requests, a request a turn: what is left from place i on comes to the whole.
use Prim.Native.Nat.{ℕ, ◌+◌, ◌≤◌, ◌<◌}
use native.Mathlib.Numerals.{add-one}
use mathlib.Core.Path.{◌≡◌, refl, ap, ◌∙◌}
use mathlib.Core.List.{List}
use lib.ListN.{length, get_or, drop, drop_of_length-le}
use lib.Seq.{drop-cons}
use Rattle.rules.specs.declared.Slot.{Slot}
use Rattle.words.specs.View.{slots_of, tasks_of, TasksStand, TasksShow}
use Rattle.rousing.specs.declared.Change.{Change}
use Rattle.rousing.specs.Parts.{request_in, owner_changed, for_each}

-- after i turns, with the words as they were first and as they are now
pub record Along (k : Change) (ss : List ℕ) (q : List Slot) (n : ℕ) (first : List ℕ) (i : ℕ) (w : List ℕ) : Type 0 where
  pub kept : length w ≡ length first
  pub stand : TasksStand n first → TasksStand n w
  pub rest : for_each k (slots_of ss) (drop i q) (tasks_of n w) ≡ for_each k (slots_of ss) q (tasks_of n first)

module _ (k : Change) (ss : List ℕ) (q : List Slot) (n : ℕ) (first : List ℕ) where
  pub along_start : Along k ss q n first 0 first
  along_start = record { kept = refl; stand = λ h. h; rest = refl }

  module _ (i : ℕ) (w : List ℕ) (a : Along k ss q n first i w) where
    pub along_on : (d : Slot) → i < length q → (after : List ℕ) → length after ≡ length w
        → TasksShow n after w (owner_changed k (request_in (slots_of ss) (get_or q i d)) (tasks_of n w))
        → Along k ss q n first (i + 1) after
    unfolding for_each
    along_on d h after e s =
        record {
          kept = e ∙ a.kept;
          stand = λ t. s.stand (a.stand t);
          rest = rw (s.view, add-one) (rw (drop-cons q i d h) at a.rest);
        }

    pub along_done : length q ≤ i → (r : List Slot) → q ≡ r → TasksShow n w first (for_each k (slots_of ss) r (tasks_of n first))
    unfolding for_each
    along_done h r e =
        let f : for_each k (slots_of ss) q (tasks_of n first) ≡ for_each k (slots_of ss) r (tasks_of n first) = ap (λ (s : List Slot). for_each k (slots_of ss) s (tasks_of n first)) e in
        record { view = (rw (drop_of_length-le q {i = i} h) at a.rest) ∙ f; stand = a.stand }
