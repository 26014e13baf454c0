-- A state that is held, in its two parts: the refusals, and the outcome of an accepted step, from what each part gave.
use Rattle.std.specs.Prelude.{Option, None, Some}
use Rattle.std.proofs.lemmas.Option.{none-some}
use Prim.Native.Nat.{ℕ, ◌≤◌, ◌<◌}
use native.Mathlib.Omega.{arith}
use mathlib.Core.Path.{◌≡◌, refl, sym, ap, subst, ◌∙◌}
use mathlib.Core.Bool.{Bool, true, false}
use mathlib.Core.List.{List, [], ◌∷◌}
use borrow.Author.Tests.{leb-false}
use lib.Dec.{leb}
use lib.ListN.{length}
use Rattle.rules.specs.declared.Step.{Step}
use Rattle.rules.specs.Sizes.{max_tasks, slot_count, width}
use Rattle.rules.specs.Steps.{Answer, Outcome, effect}
use Rattle.rules.specs.Refusals.{◌if◌, first, refusal}
use Rattle.rules.specs.Sound.{Sound}
use Rattle.rules.proofs.KeepsSteps.{sound-effect}
use Rattle.splitting.specs.Plain.{Plain}
use Rattle.splitting.specs.Who as W
use Rattle.splitting.specs.Times.{known, timing_of, back_of, times_refusal}
use Rattle.splitting.specs.Kept.{Kept, kept_step, times_kept, Ready}
use Rattle.splitting.specs.Split.{whole}
use Rattle.splitting.specs.Parts.{or_else, refusal_parts}
use Rattle.splitting.specs.Fitness.{SoundPlain}
use Rattle.splitting.proofs.Splitting.{refusal-whole}
use Rattle.splitting.proofs.KeptSplit.{kept-fits, kept-accepted}
use Rattle.splitting.proofs.Fitness.{sound_part}
use Rattle.replies.specs.Answers.{answer_of}
use Rattle.words.specs.View.{grants_of}
use Rattle.words.proofs.Tasks.{length-tasks}
use Rattle.words.proofs.Slots.{length-slots}
use Rattle.words.proofs.Grants.{grants-number}
use Rattle.head.specs.declared.Answered.{Answered}
use Rattle.head.specs.View.{Answers}
use Rattle.batches.specs.declared.Batches.{Batches}
use Rattle.batches.specs.View.{stands_in}
use Rattle.times.specs.View.{refusal_kept, Able, AbleAtRest, Shows}
use Rattle.times.proofs.Clocks.{clocks-length}
use Rattle.times.proofs.Told.{refusal-kept, able_accepted, counted, ungranted, able_at_rest}
use Rattle.times.proofs.Public.{whole-step}
use Rattle.state.specs.declared.BatchSemaphore.{BatchSemaphore}
use Rattle.state.specs.declared.Stepped.{Stepped}
use Rattle.state.specs.View.{Words, plain_in, kept_in, view_of, outcome_of, Fit}

actor-below : (a : Step) (p : Plain) → W.refusal a p ≡ None → a.actor.0 < length p.tasks
unfolding W.refusal
actor-below a p e = go (leb (length p.tasks) a.actor.0) refl e
  where
    go : (b : Bool) → leb (length p.tasks) a.actor.0 ≡ b
        → first (1 if b ∷ 2 if W.not_runnable a.actor p ∷ W.grounds a.act p) ≡ None → a.actor.0 < length p.tasks
    go true q h = absurd (none-some 1 (sym h))
    go false q h = leb-false (length p.tasks) a.actor.0 q

neither : (a b : Option ℕ) → or_else a b ≡ None → (a ≡ None) × (b ≡ None)
neither None b e = (refl, e)
neither (Some n) b e = absurd (none-some n (sym e))

module _ (s : BatchSemaphore) (w : Words) (gs : List ℕ) (f : Fit s w gs) where
  abbrev p : Plain
  p = plain_in s w

  abbrev k : Kept
  k = kept_in s w

  tasks-room : length p.tasks ≤ length k.clocks
  tasks-room = omega (arith, length-tasks w.tasks s.head.tasks, clocks-length width max_tasks w.clocks, f.shaped.head.tasks)

  slots-room : length p.slots ≤ length k.requests
  slots-room = omega (arith, length-slots w.slots, clocks-length width slot_count w.makers)

  pub sound_here : SoundPlain p
  sound_here = sound_part p (times_kept p k) f.sound

  module _ (a : Step) where
    refusal_here : refusal a (view_of s w) ≡ or_else (W.refusal a p) (times_refusal a (known a p) (times_kept p k))
    unfolding refusal_parts
    refusal_here = refusal-whole a (record { plain = p; times = times_kept p k }) (kept-fits p k tasks-room)

    -- who's refusal comes first; where it has none, those of when
    pub refusal_both : refusal a (view_of s w) ≡ or_else (W.refusal a p) (refusal_kept a.actor (known a p) k)
    refusal_both = refusal_here ∙ by_first (W.refusal a p) refl
      where
        by_first : (o : Option ℕ) → W.refusal a p ≡ o → or_else o (times_refusal a (known a p) (times_kept p k)) ≡ or_else o (refusal_kept a.actor (known a p) k)
        by_first None e = sym (refusal-kept a p (known a p) k (actor-below a p e))
        by_first (Some n) e = refl

    module _ (accepted : refusal a (view_of s w) ≡ None) where
      pub plain_accepts : W.refusal a p ≡ None
      plain_accepts = (neither (W.refusal a p) (refusal_kept a.actor (known a p) k) (sym refusal_both ∙ accepted)).0

      late_accepts : refusal_kept a.actor (known a p) k ≡ None
      late_accepts = (neither (W.refusal a p) (refusal_kept a.actor (known a p) k) (sym refusal_both ∙ accepted)).1

      actor_here : a.actor.0 < max_tasks
      actor_here = omega (arith, actor-below a p plain_accepts, length-tasks w.tasks s.head.tasks, f.shaped.head.tasks)

      ready : Ready a p k
      ready = kept-accepted a p k f.sound accepted tasks-room slots-room

      -- what the times count on, of who's outcome
      pub able_here : (d : Answered) (ss ts hs : List ℕ) → Answers d ss ts hs (W.effect a p)
          → Able (timing_of a.act) a.actor (answer_of d.reply) d.count (back_of a.act p) w.clocks (stands_in s.batches w.sizes w.rows)
      unfolding known
      able_here d ss ts hs o =
          let n : d.count ≡ length (W.effect a p).grants = sym (grants-number d.count hs) ∙ ap length o.grants in
          let c = counted a p in
          able_accepted (timing_of a.act) a.actor (answer_of d.reply) d.count (known a p) s.batches w.sizes w.rows w.last w.makers w.clocks
          actor_here
          o.few
          late_accepts
          (rw (o.answer, n) c)

      -- and of an outcome without grants
      pub rest_here : (o : Answer) → o ≡ (W.effect a p).answer → (W.effect a p).grants ≡ [] → AbleAtRest (timing_of a.act) a.actor o w.clocks
      unfolding known
      rest_here o e g =
          able_at_rest (timing_of a.act) a.actor o (known a p) s.batches w.sizes w.rows w.last w.makers w.clocks actor_here late_accepts
          (rw e (ungranted a p g))

      -- the two parts' results together: the rules' outcome
      module _ (d : Answered) (b : Batches) (v : Words) (hs : List ℕ) (who : Answers d v.slots v.tasks hs (W.effect a p))
          (when : (ticks : Bool) → Shows b v.sizes v.rows v.last v.makers v.clocks (kept_step a (answer_of d.reply) (grants_of d.count hs) (record { stock = s.head.stock; back = back_of a.act p; ticks = ticks }) k)) where
        abbrev result : Stepped
        result = record { reply = d.reply; count = d.count; state = record { head = d.head; batches = b } }

        pub outcome_here : outcome_of result v hs ≡ effect a (view_of s w)
        outcome_here =
            (λ i.
            record {
              answer = who.answer i;
              grants = who.grants i;
              state = whole (who.state.view i) (times_kept (who.state.view i) (kept_in result.state v));
            })
            ∙ sym (whole-step a p k ready s.head.stock (back_of a.act p) (answer_of d.reply) (grants_of d.count hs) b v.sizes v.rows v.last v.makers v.clocks refl refl who.answer who.grants when)

        sound-after : Sound (view_of result.state v)
        sound-after = subst Sound (sym (ap (λ (o : Outcome). o.state) outcome_here)) (sound-effect a (view_of s w) accepted f.sound)

        pub fit_here : length v.sizes ≡ length w.sizes → length v.rows ≡ length w.rows → length v.last ≡ length w.last
            → length v.makers ≡ length w.makers → length v.clocks ≡ length w.clocks → length hs ≡ length gs → Fit result.state v hs
        fit_here es er el em ec eg =
            let z = f.shaped in
            record {
              shaped =
                  record {
                    head = who.state.shaped;
                    formed = (when true).formed;
                    ring = record { places = es ∙ z.ring.places; entries = er ∙ z.ring.entries };
                    latest = el ∙ z.latest;
                    makers = em ∙ z.makers;
                    clocks = ec ∙ z.clocks;
                  };
              grants = eg ∙ f.grants;
              sound = sound-after;
            }
