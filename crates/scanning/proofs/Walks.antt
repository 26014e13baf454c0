-- A scan's walk, a turn at a time: at place i of the queue, the walk over the rest from here is the scan from the start.
use Prim.Native.Nat.{ℕ, suc, ◌+◌, ◌≤◌}
use native.Mathlib.Numerals.{add-one}
use native.Mathlib.Omega.{arith}
use mathlib.Core.Path.{◌≡◌, refl, sym, ap, subst, ◌∙◌}
use mathlib.Core.Bool.{false}
use mathlib.Core.List.{List, [], ◌∷◌, ◌++◌}
use lib.ListN.{length, drop, drop_of_length-le}
use Rattle.rules.specs.declared.Slot.{Slot}
use Rattle.rules.specs.declared.Grant.{Grant}
use Rattle.rules.specs.declared.Verdict.{Verdict}
use Rattle.rules.specs.declared.Verdict.TheVariants.{Leaves, Fits, Passed, Ends}
use Rattle.rules.specs.Broken.{twice}
use Rattle.rules.specs.Scan.{without}
use Rattle.rules.proofs.Queues.{once-without}
use Rattle.splitting.specs.Plain.{Plain}
use Rattle.splitting.specs.Who.{verdict, grant_queued, queue_grant, leave, turn, walk, scan}
use Rattle.scanning.specs.View.{StandsAt}
use Rattle.scanning.proofs.Places.{split, moved, fewer}

pub granted_queue : (x : Slot) (s : Plain) → (grant_queued x s).queue ≡ without x s.queue
unfolding grant_queued
granted_queue x s = refl

pub record WalkAt (from s : Plain) (gs : List Grant) (i : ℕ) : Type 0 where
  pub once : twice s.queue ≡ false
  pub within : i ≤ length s.queue
  pub rest : walk (drop i s.queue) s gs ≡ scan from

pub walk_start : (s : Plain) → twice s.queue ≡ false → WalkAt s s [] 0
unfolding scan
walk_start s h = record { once = h; within = omega arith; rest = refl }

module _ (from s : Plain) (gs : List Grant) (i : ℕ) (w : WalkAt from s gs i) where
  -- the walk has come to the queue's end
  pub walk_over : length s.queue ≤ i → record { grants = gs; state = s } ≡ scan from
  unfolding walk
  walk_over h = ap (λ (q : List Slot). walk q s gs) (sym (drop_of_length-le s.queue {i = i} h)) ∙ w.rest

  -- the slot at i
  module _ (x : Slot) (p : StandsAt x i s.queue) where
    abbrev ahead : List Slot
    ahead = drop (suc i) s.queue

    turned : turn (verdict x s) x (λ b hs. walk ahead b hs) s gs ≡ scan from
    unfolding walk
    turned = ap (λ (q : List Slot). walk q s gs) (sym (split x i s.queue p)) ∙ w.rest

    by : (v : Verdict) → verdict x s ≡ v → turn v x (λ b hs. walk ahead b hs) s gs ≡ scan from
    by v e = subst (λ (v : Verdict). turn v x (λ b hs. walk ahead b hs) s gs ≡ scan from) e turned

    -- one that leaves the queue at i: the rest stands at i
    out : (b : Plain) (hs : List Grant) → b.queue ≡ without x s.queue → walk ahead b hs ≡ scan from → WalkAt from b hs i
    out b hs e r =
        record {
          once = ap (λ (q : List Slot). twice q) e ∙ once-without x s.queue w.once;
          within = omega (arith, p.within, fewer x i s.queue p, ap (λ (q : List Slot). length q) e);
          rest = ap (λ (q : List Slot). walk q b hs) (ap (λ (q : List Slot). drop i q) e ∙ moved x i s.queue p) ∙ r;
        }

    pub walk-leaves : verdict x s ≡ Leaves → WalkAt from (leave x s) gs i
    walk-leaves e = out (leave x s) gs refl (by Leaves e)

    pub walk-fits : verdict x s ≡ Fits → WalkAt from (grant_queued x s) (gs ++ queue_grant x s ∷ []) i
    walk-fits e = out (grant_queued x s) (gs ++ queue_grant x s ∷ []) (granted_queue x s) (by Fits e)

    pub walk-passes : verdict x s ≡ Passed → WalkAt from s gs (i + 1)
    walk-passes e =
        let n : drop (i + 1) s.queue ≡ ahead = rw add-one in
        record { once = w.once; within = omega (arith, p.within); rest = ap (λ (q : List Slot). walk q s gs) n ∙ by Passed e }

    pub walk_ends : verdict x s ≡ Ends → record { grants = gs; state = s } ≡ scan from
    walk_ends e = by Ends e
