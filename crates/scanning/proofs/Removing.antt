-- The front of the queue, and a queued request that goes.
use Prim.Native.Nat.{ℕ, ◌*◌}
use native.Mathlib.Omega.{arith}
use mathlib.Core.Path.{◌≡◌, refl, sym, ap, subst, ◌∙◌}
use mathlib.Core.Bool.{Bool, true, false, cond, ◌&&◌, ◌||◌}
use mathlib.Core.List.{List, [], ◌∷◌}
use lib.ListN.{length}
use Rattle.rules.specs.declared.Slot.{Slot}
use Rattle.rules.specs.Sizes.{slot_count}
use Rattle.rules.specs.Broken.{twice}
use Rattle.rules.specs.Steps.{is_first}
use Rattle.rules.proofs.Queues.{once-without}
use Rattle.splitting.specs.Plain.{Plain, strict}
use Rattle.splitting.specs.Who.{Granting as GrantingRule, leave, scan, ungranted, front_bypassable, drop_queued}
use Rattle.queue.specs.View.{waiters_of}
use Rattle.words.specs.View.{request_words}
use Rattle.words.proofs.Grants.{no_grants}
use Rattle.head.specs.declared.Head.{Head}
use Rattle.head.specs.declared.Granting.{Granting}
use Rattle.head.specs.View.{plain_of, Shaped, Grants}
use Rattle.scanning.specs.View.{AnyTasks, front_as}

-- ---- the front
front_there : (q : List Slot) (s : Plain) → front_as q s.slots ≡ front_bypassable q s
front_there [] s = refl
front_there (x ∷ q) s = refl

-- ---- the whole
abbrev then_scan : Plain → Bool → GrantingRule
then_scan a f = cond (strict a && (f || front_bypassable a.queue a)) (scan a) (ungranted a)

module _ (h l : Head) (slots after tasks : List ℕ) (x : Slot) (s : Shaped h slots tasks) (k : AnyTasks (leave x) l after h slots) where
  abbrev left : Plain
  left = plain_of l after tasks

  pub left-shaped : Shaped l after tasks
  left-shaped = (k tasks s).shaped

  pub left_reads : length after ≡ slot_count * request_words
  left_reads = left-shaped.slot-words

  pub left-once : twice (waiters_of h.waiters) ≡ false → twice (waiters_of l.waiters) ≡ false
  left-once o =
      subst (λ (a : Plain). twice a.queue ≡ false) (sym (k tasks s).view) (once-without x (waiters_of h.waiters) o)

  module _ (first b : Bool) (ef : first ≡ is_first x (waiters_of h.waiters)) (eb : b ≡ strict left && (first || front_as left.queue left.slots)) where
    decided : drop_queued x (plain_of h slots tasks) ≡ cond b (scan left) (ungranted left)
    unfolding drop_queued
    decided =
        ap (λ (f : Bool). then_scan (leave x (plain_of h slots tasks)) f) (sym ef)
        ∙ ap (λ (a : Plain). then_scan a first) (sym (k tasks s).view)
        ∙ ap (λ (f : Bool). cond (strict left && (first || f)) (scan left) (ungranted left)) (sym (front_there left.queue left))
        ∙ ap (λ (c : Bool). cond c (scan left) (ungranted left)) (sym eb)

    pub removed_scanned : b ≡ true → (r : Granting) (ss ts gs : List ℕ) → Grants r ss ts gs (scan left) → Grants r ss ts gs (drop_queued x (plain_of h slots tasks))
    removed_scanned t r ss ts gs g =
        subst (λ (o : GrantingRule). Grants r ss ts gs o) (sym (decided ∙ ap (λ (c : Bool). cond c (scan left) (ungranted left)) t)) g

    pub removed_only : b ≡ false → (gs : List ℕ) → Grants (record { head = l; count = 0 }) after tasks gs (drop_queued x (plain_of h slots tasks))
    removed_only t gs =
        subst (λ (o : GrantingRule). Grants (record { head = l; count = 0 }) after tasks gs o)
        (sym (decided ∙ ap (λ (c : Bool). cond c (scan left) (ungranted left)) t))
        (record { state = record { shaped = left-shaped; view = refl }; grants = no_grants gs; few = omega arith })
