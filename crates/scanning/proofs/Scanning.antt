-- The scan's loop: a head and words that stand at a turn of the walk, and what each turn makes of them.
use Rattle.std.specs.Prelude.{None}
use Prim.Native.Nat.{ℕ, ◌+◌, ◌-◌, ◌*◌, ◌≤◌, ◌<◌}
use native.Mathlib.Omega.{arith}
use mathlib.Core.Path.{◌≡◌, refl, sym, ap, subst, ◌∙◌}
use mathlib.Core.Bool.{false}
use mathlib.Core.List.{List, [], ◌∷◌, ◌++◌}
use lib.ListN.{length, get_or}
use Rattle.rules.specs.declared.Slot.{Slot}
use Rattle.rules.specs.declared.Grant.{Grant}
use Rattle.rules.specs.declared.Taker.TheVariants.{BySlot}
use Rattle.rules.specs.declared.Verdict.{Verdict}
use Rattle.rules.specs.declared.Verdict.TheVariants.{Leaves, Fits, Passed, Ends}
use Rattle.rules.specs.Sizes.{slot_count}
use Rattle.rules.specs.Broken.{twice}
use Rattle.rules.specs.Scan.{without}
use Rattle.splitting.specs.Plain.{Plain, Request as RequestRule}
use Rattle.splitting.specs.Who.{Granting, verdict, grant_queued, queue_grant, leave, scan}
use Rattle.queue.specs.declared.Waiters.{Waiters}
use Rattle.queue.specs.View.{waiters_of, slot0}
use Rattle.records.specs.declared.Request.{Request}
use Rattle.records.specs.View.{request_of, Stands}
use Rattle.words.specs.View.{slots_of, tasks_of, grants_of}
use Rattle.words.proofs.Grants.{no_grants}
use Rattle.head.specs.declared.Head.{Head}
use Rattle.head.specs.View.{plain_of, Shaped, Shows, Grants}
use Rattle.scanning.specs.View.{AnyTasks, StandsAt, verdict_as}
use Rattle.scanning.proofs.Places.{fewer}
use Rattle.scanning.proofs.Walks.{WalkAt, walk_start, walk_over, granted_queue, walk-leaves, walk-fits, walk-passes, walk_ends}
use Rattle.scanning.proofs.Stored.{queue-within, judged_there, fits-says}

pub turn-within : (w : Waiters) (i n : ℕ) → n ≡ length (waiters_of w) → i < n → i < w.len
turn-within w i n e l = omega (arith, queue-within w)

pub record Scanning (h : Head) (slots₀ tasks₀ : List ℕ) (now : Head) (slots tasks grants : List ℕ) (count i : ℕ) : Type 0 where
  pub shaped : Shaped now slots tasks
  pub turn : WalkAt (plain_of h slots₀ tasks₀) (plain_of now slots tasks) (grants_of count grants) i
  pub room : count + length (waiters_of now.waiters) ≤ slot_count
  pub sized : length grants ≡ slot_count * 3

pub scanning : (h : Head) (slots tasks grants : List ℕ) → Shaped h slots tasks → length grants ≡ slot_count * 3 → twice (waiters_of h.waiters) ≡ false
    → Scanning h slots tasks h slots tasks grants 0 0
scanning h slots tasks grants s g o =
    record {
      shaped = s;
      turn = subst (λ (l : List Grant). WalkAt (plain_of h slots tasks) (plain_of h slots tasks) l 0) (sym (no_grants grants)) (walk_start (plain_of h slots tasks) o);
      room = omega (arith, queue-within h.waiters, s.waiters);
      sized = g;
    }

module _ (h : Head) (slots₀ tasks₀ : List ℕ) (now : Head) (slots tasks grants : List ℕ) (count i : ℕ)
    (v : Scanning h slots₀ tasks₀ now slots tasks grants count i) (n : ℕ) (en : n ≡ length (waiters_of now.waiters)) where
  abbrev here : Plain
  here = plain_of now slots tasks

  abbrev from : Plain
  from = plain_of h slots₀ tasks₀

  ended : record { grants = grants_of count grants; state = here } ≡ scan from → Grants (record { head = now; count = count }) slots tasks grants (scan from)
  ended e =
      record {
        state = record { shaped = v.shaped; view = ap (λ (g : Granting). g.state) e };
        grants = ap (λ (g : Granting). g.grants) e;
        few = omega (arith, v.room);
      }

  pub scan_over : n ≤ i → Grants (record { head = now; count = count }) slots tasks grants (scan from)
  scan_over l = ended (walk_over from here (grants_of count grants) i v.turn (omega arith))

  module _ (l : i < n) (x : Slot) (ex : x ≡ get_or (waiters_of now.waiters) i slot0) where
    pub standing : StandsAt x i (waiters_of now.waiters)
    standing = record { within = omega arith; there = ex; once = v.turn.once }

    module _ (r : Request) (st : Stands r (get_or (slots_of slots) x.0 None))
        (d : Verdict) (ed : d ≡ verdict_as (tasks_of now.tasks tasks) (request_of r) now.stock) where
      said : verdict x here ≡ d
      said = sym (ed ∙ judged_there here x (request_of r) st.view)

      short : length (waiters_of now.waiters) ≡ 1 + length (without x (waiters_of now.waiters))
      short = omega (arith, fewer x i (waiters_of now.waiters) standing)

      at : (b : Head) (s t g : List ℕ) (k : ℕ) (a : Plain) (gs : List Grant) → Shows b s t a → grants_of k g ≡ gs → length g ≡ slot_count * 3
          → k + length a.queue ≤ slot_count → WalkAt from a gs i → Scanning h slots₀ tasks₀ b s t g k i
      at b s t g k a gs sh eg sg ro w =
          record {
            shaped = sh.shaped;
            turn =
                subst (λ (a : Plain). WalkAt from a (grants_of k g) i) (sym sh.view)
                (subst (λ (gs : List Grant). WalkAt from a gs i) (sym eg) w);
            room = subst (λ (a : Plain). k + length a.queue ≤ slot_count) (sym sh.view) ro;
            sized = sg;
          }

      pub after-leaves : d ≡ Leaves → (b : Head) (s : List ℕ) → AnyTasks (leave x) b s now slots → Scanning h slots₀ tasks₀ b s tasks grants count i
      after-leaves e b s k =
          at b s tasks grants count (leave x here) (grants_of count grants) (k tasks v.shaped) refl v.sized
          (omega (arith, v.room, short))
          (walk-leaves from here (grants_of count grants) i v.turn x standing (said ∙ e))

      pub shorter_leaves : (b : Head) (s : List ℕ) → AnyTasks (leave x) b s now slots → length (waiters_of b.waiters) - i < length (waiters_of now.waiters) - i
      shorter_leaves b s k =
          subst (λ (a : Plain). length a.queue - i < length (waiters_of now.waiters) - i) (sym (k tasks v.shaped).view)
          (omega (arith, short, standing.within))

      pub grants-room : count < slot_count
      grants-room = omega (arith, v.room, standing.within)

      pub fitting : d ≡ Fits → r.ask.asked ≤ now.stock
      fitting e = fits-says (tasks_of now.tasks tasks) (request_of r) now.stock d ed e

      pub after-fits : d ≡ Fits → (g : List ℕ) → length g ≡ length grants
          → grants_of (count + 1) g ≡ grants_of count grants ++ record { taker = BySlot x; count = r.ask.asked; task = record { 0 = r.task } } ∷ []
          → (b : Head) (s t : List ℕ) → Shows b s t (grant_queued x here) → Scanning h slots₀ tasks₀ b s t g (count + 1) i
      after-fits e g kg eg b s t sh =
          at b s t g (count + 1) (grant_queued x here) (grants_of count grants ++ queue_grant x here ∷ []) sh
          (eg ∙ ap (λ (z : RequestRule). grants_of count grants ++ record { taker = BySlot x; count = z.ask.asked; task = z.task } ∷ []) st.view)
          (kg ∙ v.sized)
          (omega (arith, v.room, short, ap (λ (q : List Slot). length q) (granted_queue x here)))
          (walk-fits from here (grants_of count grants) i v.turn x standing (said ∙ e))

      pub shorter_fits : (b : Head) (s t : List ℕ) → Shows b s t (grant_queued x here) → length (waiters_of b.waiters) - i < length (waiters_of now.waiters) - i
      shorter_fits b s t sh =
          subst (λ (a : Plain). length a.queue - i < length (waiters_of now.waiters) - i) (sym sh.view)
          (omega (arith, short, standing.within, ap (λ (q : List Slot). length q) (granted_queue x here)))

      pub after-passes : d ≡ Passed → Scanning h slots₀ tasks₀ now slots tasks grants count (i + 1)
      after-passes e =
          record {
            shaped = v.shaped;
            turn = walk-passes from here (grants_of count grants) i v.turn x standing (said ∙ e);
            room = v.room;
            sized = v.sized;
          }

      pub scan-ends : d ≡ Ends → Grants (record { head = now; count = count }) slots tasks grants (scan from)
      scan-ends e = ended (walk_ends from here (grants_of count grants) i v.turn x standing (said ∙ e))
