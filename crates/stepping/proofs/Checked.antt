-- The first refusal of a step, by what each check said before.
use Rattle.std.specs.Prelude.{Option, Result, Ok, Err}
use Prim.Native.Nat.{ℕ}
use mathlib.Core.Path.{◌≡◌, sym, ap, ◌∙◌}
use mathlib.Core.List.{List}
use Rattle.rules.specs.declared.TaskId.{TaskId}
use Rattle.rules.specs.Refusals.{first}
use Rattle.splitting.specs.Parts.{or_else}
use Rattle.replies.specs.declared.Refusal.{Refusal}
use Rattle.replies.specs.Answers.{given}
use Rattle.head.specs.View.{plain_of}
use Rattle.planning.specs.declared.Plan.{Plan}
use Rattle.planning.specs.Plans.{Says, actor_grounds}
use Rattle.times.specs.View.{refusal_kept, kept_of}
use Rattle.state.specs.declared.BatchSemaphore.{BatchSemaphore}
use Rattle.state.specs.View.{Words, plain_in, kept_in}
use Rattle.stepping.specs.Contract.{Checks}

module _ (s : BatchSemaphore) (ts cs : List ℕ) (t : TaskId) (p : Plan) where
  abbrev SaysActor : Result (Unit {0}) Refusal → Type 0
  SaysActor c = (slots : List ℕ) → Says c (actor_grounds t (plain_of s.head slots ts))

  abbrev SaysLate : Result (Unit {0}) Refusal → Type 0
  SaysLate r = (k : ℕ) (sizes rows last makers : List ℕ) → given r ≡ refusal_kept t (record { stock = k; back = p.back; ticks = p.ticks }) (kept_of s.batches sizes rows last makers cs)

  actor_here : (c : Result (Unit {0}) Refusal) → SaysActor c → (w : Words) → w.tasks ≡ ts → given c ≡ first (actor_grounds t (plain_in s w))
  actor_here c k w e = (k w.slots).first ∙ ap (λ (us : List ℕ). first (actor_grounds t (plain_of s.head w.slots us))) (sym e)

  abbrev late_of : Words → Option ℕ
  late_of w = refusal_kept t (record { stock = s.head.stock; back = p.back; ticks = p.ticks }) (kept_in s w)

  -- the actor is refused
  pub by_actor : (why : Refusal) (c : Result (Unit {0}) Refusal) → SaysActor c → c ≡ Err why → Checks (Err why) s ts cs t p
  by_actor why c k e w et ec =
      ap (λ (o : Option ℕ). or_else o (or_else (given p.check) (late_of w))) (ap given (sym e) ∙ actor_here c k w et)

  module _ (c : Result (Unit {0}) Refusal) (says : SaysActor c) (on : c ≡ Ok (record {})) where
    past_actor : (w : Words) → w.tasks ≡ ts → (o : Option ℕ) → o ≡ or_else (first (actor_grounds t (plain_in s w))) o
    past_actor w et o = ap (λ (q : Option ℕ). or_else q o) (ap given (sym on) ∙ actor_here c says w et)

    -- or what was planned
    pub by_plan : (why : Refusal) → p.check ≡ Err why → Checks (Err why) s ts cs t p
    by_plan why e w et ec =
        ap (λ (c : Result (Unit {0}) Refusal). or_else (given c) (late_of w)) (sym e) ∙ past_actor w et (or_else (given p.check) (late_of w))

    -- or neither
    pub by_times : (r : Result (Unit {0}) Refusal) → p.check ≡ Ok (record {}) → SaysLate r → Checks r s ts cs t p
    by_times r e k w et ec =
        k s.head.stock w.sizes w.rows w.last w.makers
        ∙ ap (λ (us : List ℕ). refusal_kept t (record { stock = s.head.stock; back = p.back; ticks = p.ticks }) (kept_of s.batches w.sizes w.rows w.last w.makers us)) (sym ec)
        ∙ ap (λ (c : Result (Unit {0}) Refusal). or_else (given c) (late_of w)) (sym e)
        ∙ past_actor w et (or_else (given p.check) (late_of w))
