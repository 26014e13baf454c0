-- A step that was planned and that no refusal is met by: what its parts ask, and what they come to together.
use Rattle.std.specs.Prelude.{Option, None, Some}
use Prim.Native.Nat.{ℕ}
use mathlib.Core.Path.{◌≡◌, refl, sym, ap, subst, ◌∙◌}
use mathlib.Core.Bool.{Bool, true}
use mathlib.Core.List.{List}
use lib.ListN.{length}
use Rattle.rules.specs.declared.Step.{Step}
use Rattle.splitting.specs.Plain.{Plain}
use Rattle.splitting.specs.Who as W
use Rattle.splitting.specs.Times.{timing_of, back_of}
use Rattle.splitting.specs.Kept.{Kept, kept_step}
use Rattle.replies.specs.declared.Reply.{Reply}
use Rattle.replies.specs.Answers.{answer_of}
use Rattle.words.specs.View.{grants_of}
use Rattle.words.proofs.Grants.{no_grants}
use Rattle.head.specs.declared.Answered.{Answered}
use Rattle.head.specs.View.{Answers}
use Rattle.batches.specs.declared.Batches.{Batches}
use Rattle.batches.specs.View.{stands_in}
use Rattle.times.specs.View.{AbleAtRest, Shows}
use Rattle.times.specs.View as T
use Rattle.choosing.specs.declared.Choice.{Choice}
use Rattle.choosing.specs.Choice.{effect_by, moves_in}
use Rattle.choosing.proofs.Chosen.{effect_chosen, none_back}
use Rattle.planning.specs.declared.Plan.{Plan}
use Rattle.resting.specs.Resting.{Rested, RestsBy, HasSlot}
use Rattle.resting.proofs.Allowing.{has_slot}
use Rattle.resting.proofs.Rested.{moves_so, rests_so, rests-answer}
use Rattle.doing.specs.Effects.{Able}
use Rattle.doing.proofs.Allowing.{able}
use Rattle.state.specs.declared.BatchSemaphore.{BatchSemaphore}
use Rattle.state.specs.declared.Stepped.{Stepped}
use Rattle.state.specs.View.{Words, words, plain_in, kept_in}
use Rattle.stepping.specs.Contract.{Due, RestTaken, Taken}
use Rattle.stepping.proofs.Composed.{sound_here, plain_accepts, able_here, rest_here, outcome_here, fit_here}

module _ (s : BatchSemaphore) (w : Words) (gs : List ℕ) (a : Step) (l : Plan) (due : Due s w gs a l) where
  abbrev p : Plain
  p = plain_in s w

  abbrev k : Kept
  k = kept_in s w

  chosen : effect_by a.actor l.choice p ≡ W.effect a p
  chosen = ap (λ (c : Choice). effect_by a.actor c p) due.planned.choice ∙ sym (effect_chosen a.actor a.act p)

  -- what who's effect asks
  pub may_do : Able l.choice p
  may_do = able a p l.choice (sound_here s w gs due.fit) (plain_accepts s w gs due.fit a due.unrefused) due.planned.choice

  module _ (d : Answered) (ss ts hs : List ℕ) (who : Answers d ss ts hs (effect_by a.actor l.choice p)) where
    who_so : Answers d ss ts hs (W.effect a p)
    who_so = subst (Answers d ss ts hs) chosen who

    -- what the times ask
    pub may_time : T.Able (timing_of a.act) a.actor (answer_of d.reply) d.count l.back w.clocks (stands_in s.batches w.sizes w.rows)
    may_time =
        subst (λ (n : ℕ). T.Able (timing_of a.act) a.actor (answer_of d.reply) d.count n w.clocks (stands_in s.batches w.sizes w.rows)) (sym due.planned.back)
        (able_here s w gs due.fit a due.unrefused d ss ts hs who_so)

  pub taken : (d : Answered) (b : Batches) (v : Words) (hs : List ℕ) → Answers d v.slots v.tasks hs (effect_by a.actor l.choice p)
      → ((ticks : Bool) → Shows b v.sizes v.rows v.last v.makers v.clocks (kept_step a (answer_of d.reply) (grants_of d.count hs) (record { stock = s.head.stock; back = l.back; ticks = ticks }) k))
      → length v.sizes ≡ length w.sizes → length v.rows ≡ length w.rows → length v.last ≡ length w.last
      → length v.makers ≡ length w.makers → length v.clocks ≡ length w.clocks → length hs ≡ length gs
      → Taken s w a (record { reply = d.reply; count = d.count; state = record { head = d.head; batches = b } }) v hs
  taken d b v hs who when es er el em ec eg =
      let o = who_so d v.slots v.tasks hs who in
      let t : (ticks : Bool) → Shows b v.sizes v.rows v.last v.makers v.clocks (kept_step a (answer_of d.reply) (grants_of d.count hs) (record { stock = s.head.stock; back = back_of a.act p; ticks = ticks }) k) =
      λ ticks. subst (λ (n : ℕ). Shows b v.sizes v.rows v.last v.makers v.clocks (kept_step a (answer_of d.reply) (grants_of d.count hs) (record { stock = s.head.stock; back = n; ticks = ticks }) k)) due.planned.back (when ticks)
      in
      record { outcome = outcome_here s w gs due.fit a due.unrefused d b v hs o t; fit = fit_here s w gs due.fit a due.unrefused d b v hs o t es er el em ec eg; few = who.few }

  -- ---- a step that leaves the head as it is
  pub slot-there : HasSlot l.choice
  slot-there = has_slot a p l.choice (plain_accepts s w gs due.fit a due.unrefused) due.planned.choice

  module _ (r : Option Reply) (ss ts : List ℕ) (by : RestsBy a.actor l.choice s.head.tasks r ss ts w.slots w.tasks) where
    module _ (y : Reply) (said : r ≡ Some y) where
      rested : Rested y s.head ss ts (W.effect a p)
      rested = subst (Rested y s.head ss ts) chosen (by.rests y said s.head refl due.fit.shaped.head)

      none_back_here : l.back ≡ 0
      none_back_here = due.planned.back ∙ none_back a.act p (sym (ap moves_in due.planned.choice) ∙ rests_so _ _ _ r ss ts _ _ by y said)

      pub may_rest : AbleAtRest (timing_of a.act) a.actor (answer_of y) w.clocks
      may_rest = rest_here s w gs due.fit a due.unrefused (answer_of y) rested.answer rested.grants

      answers : Answers (record { reply = y; count = 0; head = s.head }) ss ts gs (effect_by a.actor l.choice p)
      answers = rests-answer _ _ _ r ss ts _ _ by y said s.head refl due.fit.shaped.head gs

      module _ (z : Stepped) (makers clocks : List ℕ) (t : RestTaken s a y z w.last makers clocks w.makers w.clocks) where
        abbrev v : Words
        v = words ss ts w.sizes w.rows w.last makers clocks

        when : (ticks : Bool) → Shows s.batches w.sizes w.rows w.last makers clocks (kept_step a (answer_of y) (grants_of 0 gs) (record { stock = s.head.stock; back = l.back; ticks = ticks }) k)
        when ticks =
            record {
              formed = due.fit.shaped.formed;
              view =
                  t.times s.batches w.sizes w.rows s.head.stock ticks
                  ∙ (λ i. kept_step a (answer_of y) (sym (no_grants gs) i) (record { stock = s.head.stock; back = sym none_back_here i; ticks = ticks }) k);
            }

        pub rest_taken : length makers ≡ length w.makers → length clocks ≡ length w.clocks → Taken s w a z v gs
        rest_taken em ec =
            subst (λ (z : Stepped). Taken s w a z v gs) (sym t.stepped)
            (taken (record { reply = y; count = 0; head = s.head }) s.batches v gs answers when refl refl refl em ec refl)

    -- ---- one that was left as it was
    module _ (said : r ≡ None) where
      abbrev same : Words
      same = words ss ts w.sizes w.rows w.last w.makers w.clocks

      as_it_was : w ≡ same
      as_it_was = let q = by.still said in λ i. words (sym q.0 i) (sym q.1 i) w.sizes w.rows w.last w.makers w.clocks

      pub still-moves : moves_in l.choice ≡ true
      still-moves = moves_so _ _ _ r ss ts _ _ by said

      pub still_due : Due s same gs a l
      still_due = subst (λ (u : Words). Due s u gs a l) as_it_was due

      pub still_taken : (z : Stepped) (v : Words) (hs : List ℕ) → Taken s same a z v hs → Taken s w a z v hs
      still_taken z v hs t = subst (λ (u : Words). Taken s u a z v hs) (sym as_it_was) t
