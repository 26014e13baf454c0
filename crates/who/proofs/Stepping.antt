-- A step put together: refused by the actor's grounds, by the act's, or carried out.
use Rattle.std.specs.Prelude.{Option, None, Some, Result, Ok, Err}
use Prim.Native.Nat.{ℕ}
use native.Mathlib.Omega.{arith}
use mathlib.Core.Path.{◌≡◌, refl, sym, ap, subst, ◌∙◌}
use mathlib.Core.Bool.{Bool, true, false, cond}
use mathlib.Core.List.{List}
use Rattle.rules.specs.declared.TaskId.{TaskId}
use Rattle.rules.specs.declared.Act.{Act}
use Rattle.rules.specs.declared.Step.{Step}
use Rattle.rules.specs.Refusals.{first}
use Rattle.splitting.specs.Plain.{Plain}
use Rattle.splitting.specs.Who as W
use Rattle.splitting.specs.Fitness.{SoundPlain}
use Rattle.splitting.proofs.Fitness.{sound-plain-effect}
use Rattle.replies.specs.declared.Refusal.{Refusal}
use Rattle.replies.specs.declared.Reply.{Reply}
use Rattle.replies.specs.declared.Reply.TheVariants.{Refused}
use Rattle.replies.specs.Answers.{number_of, given, answer_of}
use Rattle.head.specs.declared.Head.{Head}
use Rattle.head.specs.declared.Answered.{Answered}
use Rattle.head.specs.View.{plain_of, Shaped, Answers}
use Rattle.choosing.specs.declared.Choice.{Choice}
use Rattle.choosing.specs.Choice.{effect_by, moves_in}
use Rattle.choosing.proofs.Chosen.{effect_chosen}
use Rattle.planning.specs.declared.Plan.{Plan}
use Rattle.planning.specs.Plans.{Says, actor_grounds, Planned}
use Rattle.resting.specs.Resting.{RestsBy, HasSlot}
use Rattle.resting.proofs.Allowing.{has_slot}
use Rattle.resting.proofs.Rested.{moves_so, rests-answer}
use Rattle.doing.specs.Effects.{Able}
use Rattle.doing.proofs.Allowing.{able}
use Rattle.who.specs.Steps.{Ready, Refuses, DoesBy, Steps}

-- ---- the first of all grounds
by_none : (b c : Bool) (m n : ℕ) (o : Option ℕ) → cond b (Some m) (cond c (Some n) None) ≡ None → cond b (Some m) (cond c (Some n) o) ≡ o
by_none true c m n o e = let z : ◌≡◌ {A = ℕ} 0 1 = cc in absurd (omega arith)
by_none false true m n o e = let z : ◌≡◌ {A = ℕ} 0 1 = cc in absurd (omega arith)
by_none false false m n o e = refl

by_some : (b c : Bool) (m n k : ℕ) (o : Option ℕ) → cond b (Some m) (cond c (Some n) None) ≡ Some k → cond b (Some m) (cond c (Some n) o) ≡ Some k
by_some true c m n k o e = e
by_some false true m n k o e = e
by_some false false m n k o e = let z : ◌≡◌ {A = ℕ} 0 1 = cc in absurd (omega arith)

module _ (t : TaskId) (a : Act) (s : Plain) where
  past_actor : first (actor_grounds t s) ≡ None → W.refusal (record { actor = t; act = a }) s ≡ first (W.grounds a s)
  unfolding W.refusal
  past_actor e = by_none (W.no_such_task t s) (W.not_runnable t s) 1 2 (first (W.grounds a s)) e

  at_actor : (n : ℕ) → first (actor_grounds t s) ≡ Some n → W.refusal (record { actor = t; act = a }) s ≡ Some n
  unfolding W.refusal
  at_actor n e = by_some (W.no_such_task t s) (W.not_runnable t s) 1 2 n (first (W.grounds a s)) e

-- ---- refused
module _ (h : Head) (ss ts gs : List ℕ) (d : Ready h ss ts) (r : Answered) (why : Refusal) (er : r ≡ record { reply = Refused why; count = 0; head = h }) where
  refuses : Refuses r (number_of why) ss ts gs h ss ts gs
  refuses =
      record {
        answer = ap (λ (r : Answered). answer_of r.reply) er;
        count = ap (λ (r : Answered). r.count) er;
        head = ap (λ (r : Answered). r.head) er;
        slots = refl;
        tasks = refl;
        grants = refl;
      }

  stays : (a : Step) → W.refusal a (plain_of h ss ts) ≡ Some (number_of why) → Steps r ss ts gs a h ss ts gs
  stays a e =
      record {
        does = subst (λ (o : Option ℕ). DoesBy o (W.effect a (plain_of h ss ts)) r ss ts gs h ss ts gs) (sym e) refuses;
        ready = subst (λ (b : Head). Ready b ss ts) (sym (ap (λ (r : Answered). r.head) er)) d;
      }

  -- by the actor's grounds
  pub refused-actor : (a : Step) (c : Result (Unit {0}) Refusal) → ((slots : List ℕ) → Says c (actor_grounds a.actor (plain_of h slots ts))) → c ≡ Err why → Steps r ss ts gs a h ss ts gs
  refused-actor a c k e = stays a (at_actor a.actor a.act (plain_of h ss ts) (number_of why) (sym (k ss).first ∙ ap given e))

  -- by the act's
  pub refused_act : (t : TaskId) (a : Act) (p : Plan) → first (actor_grounds t (plain_of h ss ts)) ≡ None → ((tasks : List ℕ) → Planned p a (plain_of h ss tasks)) → p.check ≡ Err why
      → Steps r ss ts gs (record { actor = t; act = a }) h ss ts gs
  refused_act t a p f k e =
      stays (record { actor = t; act = a }) (past_actor t a (plain_of h ss ts) f ∙ sym (k ts).check ∙ ap given e)

-- ---- carried out
pub actor-passes : (h : Head) (ss ts : List ℕ) (t : TaskId) (c : Result (Unit {0}) Refusal) → ((slots : List ℕ) → Says c (actor_grounds t (plain_of h slots ts))) → c ≡ Ok (record {}) → first (actor_grounds t (plain_of h ss ts)) ≡ None
actor-passes h ss ts t c k e = sym (k ss).first ∙ ap given e

module _ (h : Head) (ss ts : List ℕ) (d : Ready h ss ts) (t : TaskId) (a : Act) (p : Plan) (f : first (actor_grounds t (plain_of h ss ts)) ≡ None)
    (k : (tasks : List ℕ) → Planned p a (plain_of h ss tasks)) (e : p.check ≡ Ok (record {})) where
  unrefused : W.refusal (record { actor = t; act = a }) (plain_of h ss ts) ≡ None
  unrefused = past_actor t a (plain_of h ss ts) f ∙ sym (k ts).check ∙ ap given e

  pub passes-slot : HasSlot p.choice
  passes-slot = has_slot (record { actor = t; act = a }) (plain_of h ss ts) p.choice unrefused (k ts).choice

  pub passes_able : Able p.choice (plain_of h ss ts)
  passes_able = able (record { actor = t; act = a }) (plain_of h ss ts) p.choice d.sound unrefused (k ts).choice

  pub carried : (r : Answered) (after awake gs before : List ℕ) → Answers r after awake gs (effect_by t p.choice (plain_of h ss ts)) → Steps r after awake gs (record { actor = t; act = a }) h ss ts before
  carried r after awake gs before w =
      let v : Answers r after awake gs (W.effect_of t a (plain_of h ss ts)) =
      subst (λ (o : W.Outcome). Answers r after awake gs o)
      (ap (λ (c : Choice). effect_by t c (plain_of h ss ts)) (k ts).choice ∙ sym (effect_chosen t a (plain_of h ss ts))) w
      in
      record {
        does =
            subst (λ (o : Option ℕ). DoesBy o (W.effect_of t a (plain_of h ss ts)) r after awake gs h ss ts before) (sym unrefused) v;
        ready =
            record {
              shaped = v.state.shaped;
              sound = subst SoundPlain (sym v.state.view) (sound-plain-effect (record { actor = t; act = a }) (plain_of h ss ts) unrefused d.sound);
            };
      }

-- ---- what rests, and what moves: words that are as they were
module _ (t : TaskId) (c : Choice) (h : Head) (ss ts : List ℕ) (s : Shaped h ss ts) (r : Option Reply) (ss' ts' : List ℕ) (by : RestsBy t c h.tasks r ss' ts' ss ts) where
  pub rests : (y : Reply) → r ≡ Some y → (d : Answered) (gs : List ℕ) → d ≡ record { reply = y; count = 0; head = h } → Answers d ss' ts' gs (effect_by t c (plain_of h ss ts))
  rests y e d gs q =
      subst (λ (d : Answered). Answers d ss' ts' gs (effect_by t c (plain_of h ss ts))) (sym q)
      (rests-answer t c h.tasks r ss' ts' ss ts by y e h refl s gs)

  module _ (e : r ≡ None) where
    as_it_was : (P : List ℕ → List ℕ → Type 0) → P ss ts → P ss' ts'
    as_it_was P x = let q = by.still e in subst (λ (us : List ℕ). P us ts') (sym q.0) (subst (P ss) (sym q.1) x)

    pub moves : moves_in c ≡ true
    moves = moves_so t c h.tasks r ss' ts' ss ts by e

    pub moves-shaped : Shaped h ss' ts'
    moves-shaped = as_it_was (Shaped h) s

    pub moves_able : Able c (plain_of h ss ts) → Able c (plain_of h ss' ts')
    moves_able x = as_it_was (λ us vs. Able c (plain_of h us vs)) x

    pub moved_on : (d : Answered) (after awake gs : List ℕ) → Answers d after awake gs (effect_by t c (plain_of h ss' ts')) → Answers d after awake gs (effect_by t c (plain_of h ss ts))
    moved_on d after awake gs =
        as_it_was (λ us vs. Answers d after awake gs (effect_by t c (plain_of h us vs)) → Answers d after awake gs (effect_by t c (plain_of h ss ts))) (λ x. x)
