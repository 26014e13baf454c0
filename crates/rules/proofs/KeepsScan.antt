-- A scan keeps a state sound. One principle goes along the walk, and one record holds what is so at each of its turns: who has been passed.
use Rattle.std.specs.Prelude.{Option, unwrap_or}
use Prim.Native.Nat.{◌-◌, ◌≤◌, ◌<◌}
use native.Mathlib.Omega.{arith}
use mathlib.Core.Path.{◌≡◌, refl, sym, ap, subst, ◌∙◌}
use mathlib.Core.Bool.{true, false, false≢true}
use mathlib.Core.List.{List, [], ◌∷◌, ◌++◌, append_assoc}
use borrow.Author.Tests.{leb-true, leb-false}
use lib.Dec.{leb}
use Rattle.rules.specs.declared.TaskId.{TaskId}
use Rattle.rules.specs.declared.Slot.{Slot}
use Rattle.rules.specs.declared.Grant.{Grant}
use Rattle.rules.specs.declared.Verdict.{Verdict}
use Rattle.rules.specs.declared.Verdict.TheVariants.{Leaves, Fits, Passed, Ends}
use Rattle.rules.specs.Task.{Task, is_finished, joined, unblocked, wakened}
use Rattle.rules.specs.Request.{Request, no_request, is_bypassable, queued_as, held}
use Rattle.rules.specs.State.{State, stock, same_slot, has_reservation, task_at, request_at, asked_at, task_of, owner_finished, alter_request}
use Rattle.rules.specs.Taking.{taking, take_queued}
use Rattle.rules.specs.Scan.{Granting, without, leave, verdict, grant_queued, queue_grant, turn, walk, scan}
use Rattle.rules.specs.Broken.{any_of, member, twice}
use Rattle.rules.specs.Sound.{Sound}
use Rattle.rules.proofs.Bools.{by_cond}
use Rattle.rules.proofs.Queues.{member_apart, by_slot, member_middle, member-behind, once_middle, without_middle, gone_without}
use Rattle.rules.proofs.Slots.{slot_at, altered_beside}
use Rattle.rules.proofs.Tasks.{by_task, rouse_awake}
use Rattle.rules.proofs.Keeping.{sound-roused}
use Rattle.rules.proofs.KeepsQueue.{sound-leave, sound_aside, queued_unreserved}
use Rattle.rules.proofs.KeepsTaking.{sound-take-queued}

-- What each verdict says.

abbrev pub Says : Verdict → Slot → State → Type 0
Says Leaves x s = owner_finished x s ≡ true
Says Fits x s = (owner_finished x s ≡ false) × (asked_at x s ≤ stock s)
Says Passed x s = (owner_finished x s ≡ false) × (stock s < asked_at x s) × (is_bypassable (request_at x s).ask.kind ≡ true)
Says Ends x s = (owner_finished x s ≡ false) × (stock s < asked_at x s) × (is_bypassable (request_at x s).ask.kind ≡ false)

pub verdict-says : (x : Slot) (s : State) → Says (verdict x s) x s
unfolding verdict
verdict-says x s =
    by_cond (λ v. Says v x s) (owner_finished x s) (λ f. f) (λ f.
    by_cond (λ v. Says v x s) (leb (asked_at x s) (stock s)) (λ l. (f, leb-true (asked_at x s) (stock s) l)) (λ l.
    by_cond (λ v. Says v x s) (is_bypassable (request_at x s).ask.kind)
    (λ b. (f, leb-false (asked_at x s) (stock s) l, b))
    (λ b. (f, leb-false (asked_at x s) (stock s) l, b))))

-- Along the walk: P holds at every turn, of the slots still ahead, the state and the grants so far; R holds at the end.

pub record Turns (P : List Slot → State → List Grant → Type 0) (R : Granting → Type 0) : Type 0 where
  pub leaves : (x : Slot) (q : List Slot) (s : State) (gs : List Grant) → Says Leaves x s → P (x ∷ q) s gs → P q (leave x s) gs
  pub fits : (x : Slot) (q : List Slot) (s : State) (gs : List Grant)
      → Says Fits x s → P (x ∷ q) s gs → P q (grant_queued x s) (gs ++ queue_grant x s ∷ [])
  pub passed : (x : Slot) (q : List Slot) (s : State) (gs : List Grant) → Says Passed x s → P (x ∷ q) s gs → P q s gs
  pub ends : (x : Slot) (q : List Slot) (s : State) (gs : List Grant) → Says Ends x s → P (x ∷ q) s gs → R (record { grants = gs; state = s })
  pub over : (s : State) (gs : List Grant) → P [] s gs → R (record { grants = gs; state = s })

module _ {P : List Slot → State → List Grant → Type 0} {R : Granting → Type 0} (k : Turns P R) where
  by_turn : (v : Verdict) (x : Slot) (q : List Slot) (s : State) (gs : List Grant) → Says v x s → P (x ∷ q) s gs
      → (on : State → List Grant → Granting) → ((b : State) (hs : List Grant) → P q b hs → R (on b hs)) → R (turn v x on s gs)
  by_turn Leaves x q s gs h p on r = r _ _ (k.leaves x q s gs h p)
  by_turn Fits x q s gs h p on r = r _ _ (k.fits x q s gs h p)
  by_turn Passed x q s gs h p on r = r _ _ (k.passed x q s gs h p)
  by_turn Ends x q s gs h p on r = k.ends x q s gs h p

  pub by_walk : (q : List Slot) (s : State) (gs : List Grant) → P q s gs → R (walk q s gs)
  unfolding walk
  by_walk [] s gs p = k.over s gs p
  by_walk (x ∷ q) s gs p =
      by_turn (verdict x s) x q s gs (verdict-says x s) p (λ b hs. walk q b hs) (λ b hs. by_walk q b hs)

-- What a grant leaves as it was.

pub granted_stock : (x : Slot) (s : State) → stock (grant_queued x s) ≡ stock s - asked_at x s
unfolding grant_queued take_queued taking
granted_stock x s = refl

pub granted_queue : (x : Slot) (s : State) → (grant_queued x s).queue ≡ without x s.queue
unfolding grant_queued take_queued
granted_queue x s = refl

pub granted_reservation : (x : Slot) (s : State) → (grant_queued x s).reservation ≡ s.reservation
unfolding grant_queued take_queued
granted_reservation x s = refl

pub granted_fairness : (x : Slot) (s : State) → (grant_queued x s).fairness ≡ s.fairness
unfolding grant_queued take_queued
granted_fairness x s = refl

pub granted_beside : (x y : Slot) (s : State) → same_slot x y ≡ false → slot_at y (grant_queued x s) ≡ slot_at y s
unfolding grant_queued take_queued
granted_beside x y s e = altered_beside x y held (leave x s) e ∙ altered_beside x y (queued_as false) s e

-- no task is finished that was not
pub granted_unfinished : (x : Slot) (s : State) (t : TaskId)
    → owner_finished x s ≡ false → is_finished (task_at t s).state ≡ false → is_finished (task_at t (grant_queued x s)).state ≡ false
unfolding grant_queued take_queued
granted_unfinished x s t u h =
    by_task (λ (a : Task). is_finished a.state ≡ false) t (task_of x s) (λ a. wakened (unblocked a)) (take_queued x s) (λ e. refl)
    (by_task (λ (a : Task). is_finished a.state ≡ false) t (task_of x s)
    (joined (taking (asked_at x s) (request_at x s).clock s.permits).clock) s (λ e. u) h)

-- A grant to a request that fits, and has not the reservation.
pub sound-grant : (x : Slot) (s : State) → asked_at x s ≤ stock s → has_reservation x s ≡ false → Sound s → Sound (grant_queued x s)
unfolding grant_queued take_queued
sound-grant x s l v h =
    sound-roused (rouse_awake (task_of x s) (alter_request x held (leave x (take_queued x s))))
    (sound_aside x held (leave x (take_queued x s)) (λ r. refl) (λ r. refl) (gone_without x s.queue h.once) v
    (sound-leave x (take_queued x s) (sound-take-queued x s l h)))

-- At a turn of the walk: some have been passed, and q is still ahead.
pub record Walking (q : List Slot) (s : State) : Type 0 where
  pub passed : List Slot
  pub queue : s.queue ≡ passed ++ q
  pub sound : Sound s
  pub skipped : (y : Slot) → member y passed ≡ true → Says Passed y s

pub walking : (s : State) → Sound s → Walking s.queue s
unfolding any_of
walking s h = record { passed = []; queue = refl; sound = h; skipped = λ y m. absurd (false≢true m) }

module _ (x : Slot) (q : List Slot) (s : State) (w : Walking (x ∷ q) s) where
  here : member x s.queue ≡ true
  here = subst (λ (l : List Slot). member x l ≡ true) (sym w.queue) (member_middle x w.passed q)

  apart : member x w.passed ≡ false
  apart = (once_middle w.passed x q (subst (λ (l : List Slot). twice l ≡ false) w.queue w.sound.once)).0

  out : without x s.queue ≡ w.passed ++ q
  out = ap (λ (l : List Slot). without x l) w.queue ∙ without_middle w.passed x q apart

  -- the passed stay passed where their requests stay, the stock grows no larger and no task finishes
  still_skipped : (b : State)
      → ((y : Slot) → same_slot x y ≡ false → slot_at y b ≡ slot_at y s)
      → stock b ≤ stock s
      → ((t : TaskId) → is_finished (task_at t s).state ≡ false → is_finished (task_at t b).state ≡ false)
      → (y : Slot) → member y w.passed ≡ true → Says Passed y b
  still_skipped b o l u y m =
      let k = w.skipped y m in
      let e = o y (member_apart x y w.passed apart m) in
      let r : request_at y b ≡ request_at y s = ap (λ (p : Option Request). unwrap_or p no_request) e in (
        u (task_of y b) (subst (λ (q : Request). is_finished (task_at q.task s).state ≡ false) (sym r) k.0),
        omega (arith, k.1, ap (λ (q : Request). q.ask.asked) r),
        ap (λ (q : Request). is_bypassable q.ask.kind) r ∙ k.2,
      )

  pub walking_leaves : Walking q (leave x s)
  walking_leaves =
      record {
        passed = w.passed;
        queue = out;
        sound = sound-leave x s w.sound;
        skipped = still_skipped (leave x s) (λ y e. altered_beside x y (queued_as false) s e) (omega arith) (λ t h. h);
      }

  pub walking_fits : Says Fits x s → Walking q (grant_queued x s)
  walking_fits k =
      record {
        passed = w.passed;
        queue = granted_queue x s ∙ out;
        sound = sound-grant x s k.1 (queued_unreserved x s w.sound here) w.sound;
        skipped =
            still_skipped (grant_queued x s) (λ y e. granted_beside x y s e) (omega (arith, granted_stock x s))
            (λ t h. granted_unfinished x s t k.0 h);
      }

  pub walking_passed : Says Passed x s → Walking q s
  walking_passed k =
      record {
        passed = w.passed ++ x ∷ [];
        queue = w.queue ∙ sym (append_assoc w.passed (x ∷ []) q);
        sound = w.sound;
        skipped = by_slot (λ y. member y (w.passed ++ x ∷ []) ≡ true → Says Passed y s) x (λ m. k)
            (λ y e m. w.skipped y (sym (member-behind y w.passed x e) ∙ m));
      }

-- what holds at every turn of a walk that starts sound
pub sound-walk : (q : List Slot) (s : State) (gs : List Grant) → Walking q s → Sound (walk q s gs).state
sound-walk =
    by_walk {P = λ q s gs. Walking q s} {R = λ g. Sound g.state} (
    record {
      leaves = λ x q s gs k w. walking_leaves x q s w;
      fits = λ x q s gs k w. walking_fits x q s w k;
      passed = λ x q s gs k w. walking_passed x q s w k;
      ends = λ x q s gs k w. w.sound;
      over = λ s gs w. w.sound;
    }
    )

pub sound-scan : (s : State) → Sound s → Sound (scan s).state
unfolding scan
sound-scan s h = sound-walk s.queue s [] (walking s h)
