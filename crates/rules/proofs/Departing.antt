-- Who is neither queued nor reserved stays so through leaving, scanning and waking.
use Rattle.std.specs.Prelude.{Option}
use Prim.Native.Nat.{ℕ}
use mathlib.Core.Path.{◌≡◌, refl, sym, ap, subst, ◌∙◌}
use mathlib.Core.Bool.{false}
use mathlib.Core.List.{List, []}
use Rattle.rules.specs.declared.TaskId.{TaskId}
use Rattle.rules.specs.declared.Slot.{Slot}
use Rattle.rules.specs.declared.Grant.{Grant}
use Rattle.rules.specs.State.{State, is_the, has_reservation}
use Rattle.rules.specs.Taking.{take_as}
use Rattle.rules.specs.Scan.{without, leave, walk, scan}
use Rattle.rules.specs.Waking.{clear_finished, wake_unfair}
use Rattle.rules.specs.Steps.{add_released, release}
use Rattle.rules.specs.Broken.{member}
use Rattle.rules.proofs.Queues.{by_slot, without_absent, member-without}
use Rattle.rules.proofs.Tasks.{Roused, roused_keeps, by_cleared, rouse_unfair}
use Rattle.rules.proofs.Decisions.{by_release}
use Rattle.rules.proofs.KeepsScan.{by_walk, granted_queue, granted_reservation}

-- nobody waits in b who did not wait in s
pub record NoMore (s b : State) : Type 0 where
  pub queue : (y : Slot) → member y s.queue ≡ false → member y b.queue ≡ false
  pub reservation : (y : Slot) → has_reservation y s ≡ false → has_reservation y b ≡ false

pub no_more_itself : (s : State) → NoMore s s
no_more_itself s = record { queue = λ y m. m; reservation = λ y v. v }

pub no_more_then : {a b c : State} → NoMore a b → NoMore b c → NoMore a c
no_more_then p q = record { queue = λ y m. q.queue y (p.queue y m); reservation = λ y v. q.reservation y (p.reservation y v) }

absent_without : (y x : Slot) (q : List Slot) → member y q ≡ false → member y (without x q) ≡ false
absent_without y x q =
    by_slot (λ z. member z q ≡ false → member z (without x q) ≡ false) x
    (λ m. subst (λ (l : List Slot). member x l ≡ false) (sym (without_absent x q m)) m)
    (λ z e m. member-without z x q e ∙ m) y

pub no_more_take : (t : TaskId) (n : ℕ) (s : State) → NoMore s (take_as t n s)
unfolding take_as
no_more_take t n s = record { queue = λ y m. m; reservation = λ y v. v }

pub no_more_leave : (x : Slot) (s : State) → NoMore s (leave x s)
no_more_leave x s = record { queue = λ y m. absent_without y x s.queue m; reservation = λ y v. v }

pub no_more_walk : (q : List Slot) (s : State) (gs : List Grant) → NoMore s (walk q s gs).state
no_more_walk q s gs =
    by_walk {P = λ l b hs. NoMore s b} {R = λ g. NoMore s g.state} (
    record {
      leaves = λ x l b hs k n. no_more_then n (no_more_leave x b);
      fits = λ x l b hs k n.
          no_more_then n (
          record {
            queue = λ y m. ap (λ (r : List Slot). member y r) (granted_queue x b) ∙ absent_without y x b.queue m;
            reservation = λ y v. ap (λ (o : Option Slot). is_the y o) (granted_reservation x b) ∙ v;
          }
          );
      passed = λ x l b hs k n. n;
      ends = λ x l b hs k n. n;
      over = λ b hs n. n;
    }
    )
    q s gs (no_more_itself s)

pub no_more_scan : (s : State) → NoMore s (scan s).state
unfolding scan
no_more_scan s = no_more_walk s.queue s []

pub no_more_roused : {s b : State} → Roused s b → NoMore s b
no_more_roused {s} r = roused_keeps (NoMore s) r (record { queue = λ y m. m; reservation = λ y v. v })

pub no_more_cleared : (s : State) → NoMore s (clear_finished s)
no_more_cleared s = by_cleared (NoMore s) s (no_more_itself s) (record { queue = λ y m. m; reservation = λ y v. refl })

pub no_more_wake : (s : State) → NoMore s (wake_unfair s)
no_more_wake s = no_more_then (no_more_cleared s) (no_more_roused (rouse_unfair s))

pub no_more_release : (t : TaskId) (n : ℕ) (s : State) → NoMore s (release t n s).state
no_more_release t n s =
    by_release (λ g. NoMore s g.state) t n s (λ e. no_more_itself s)
    (λ l f. no_more_then added (no_more_scan (add_released t n s)))
    (λ l f. no_more_then added (no_more_wake (add_released t n s)))
  where
    added : NoMore s (add_released t n s)
    added = record { queue = λ y m. m; reservation = λ y v. v }
