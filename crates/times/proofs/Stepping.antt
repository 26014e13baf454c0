-- A step by what it is to the times.
use Rattle.std.specs.Prelude.{Option}
use Prim.Native.Nat.{ℕ}
use mathlib.Core.Logic.{◌⊎◌, inl, inr}
use mathlib.Core.Path.{◌≡◌, refl, sym, ap, subst, ◌∙◌}
use mathlib.Core.Bool.{true, false, false≢true}
use mathlib.Core.List.{List, []}
use Rattle.rules.specs.declared.TaskId.{TaskId}
use Rattle.rules.specs.declared.Grant.{Grant}
use Rattle.rules.specs.declared.Step.{Step}
use Rattle.rules.specs.State.{Batch}
use Rattle.rules.specs.Steps.{Answer}
use Rattle.rules.specs.Steps.Answer.{done, granted, pending, closed, none_left, made, refused}
use Rattle.splitting.specs.Kept.{Kept, timed, kept_of_act, kept_step, store, take_each, tried, fail_try, grant_each, release}
use Rattle.splitting.specs.Times.{Known, timing_of}
use Rattle.replies.specs.declared.Reply.{Reply}
use Rattle.replies.specs.declared.Reply.TheVariants.{Done, Granted, Pending, Closed, NoPermits, Made, Refused}
use Rattle.replies.specs.Answers.{answer_of}
use Rattle.batches.specs.declared.Batches.{Batches}
use Rattle.batches.specs.View.{WellFormed}
use Rattle.splitting.specs.declared.Timing.{Timing}
use Rattle.splitting.specs.declared.Timing.TheVariants.{Makes, Takes, Tries, Gives, Stays}
use Rattle.tables.specs.Table.{table}
use Rattle.words.specs.View.{grants_of}
use Rattle.times.specs.View.{kept_of, Shows, MayTick, is_failed, Able, AbleAtRest, RestsInTimes}

-- a try that failed, and one that did not
tried_so : (a : Answer) (t : TaskId) (w : Kept) → is_failed a ≡ true → fail_try t w ≡ tried a t w
tried_so closed t w e = refl
tried_so none_left t w e = refl
tried_so done t w e = absurd (false≢true e)
tried_so granted t w e = absurd (false≢true e)
tried_so pending t w e = absurd (false≢true e)
tried_so (made x) t w e = absurd (false≢true e)
tried_so (refused q) t w e = absurd (false≢true e)

module _ (b : Batches) (sizes rows last makers clocks : List ℕ) (k : ℕ) (t : TaskId) where
  pub tried_failed : (a : Reply) (n : ℕ) (grants clocks' : List ℕ) → is_failed (answer_of a) ≡ true → n ≡ 0 → WellFormed b
      → kept_of b sizes rows last makers clocks' ≡ fail_try t (kept_of b sizes rows last makers clocks)
      → Shows b sizes rows last makers clocks' (tried (answer_of a) t (take_each k t (grants_of n grants) (kept_of b sizes rows last makers clocks)))
  unfolding take_each grants_of table
  tried_failed a n grants clocks' e z f v = record { formed = f; view = rw z (v ∙ tried_so (answer_of a) t (kept_of b sizes rows last makers clocks) e) }

pub tried-not : (a : Reply) (t : TaskId) (w : Kept) → is_failed (answer_of a) ≡ false → w ≡ tried (answer_of a) t w
tried-not Closed t w e = absurd (false≢true (sym e))
tried-not NoPermits t w e = absurd (false≢true (sym e))
tried-not Done t w e = refl
tried-not Granted t w e = refl
tried-not Pending t w e = refl
tried-not (Made x) t w e = refl
tried-not (Refused q) t w e = refl

-- what is shown, said otherwise
pub shown : (r : Batches) (sizes rows last makers clocks : List ℕ) (v w : Kept) → v ≡ w → Shows r sizes rows last makers clocks v → Shows r sizes rows last makers clocks w
shown r sizes rows last makers clocks v w e s = record { formed = s.formed; view = s.view ∙ e }

-- given back, and then granted
pub gave : (g r : Batches) (sizes rows last makers clocks sizes' rows' last' clocks' : List ℕ) (k : ℕ) (gs : List Grant) (v : Kept)
    → Shows g sizes rows last makers clocks v
    → Shows r sizes' rows' last' makers clocks' (grant_each k gs (kept_of g sizes rows last makers clocks))
    → Shows r sizes' rows' last' makers clocks' (grant_each k gs v)
gave g r sizes rows last makers clocks sizes' rows' last' clocks' k gs v s q =
    shown r sizes' rows' last' makers clocks' _ _ (ap (grant_each k gs) s.view) q

-- what a step may count on, and what it comes to
module _ (a : Step) (d e : Timing) (told : d ≡ timing_of a.act) (is : d ≡ e) where
  pub able : (o : Answer) (count back : ℕ) (clocks : List ℕ) (bs : Option (List Batch)) → Able (timing_of a.act) a.actor o count back clocks bs → Able e a.actor o count back clocks bs
  able o count back clocks bs h = let q : timing_of a.act ≡ e = sym told ∙ is in rw q at h

  by_step : (o : Answer) (gs : List Grant) (k : Known) (w : Kept) → timed e a.actor o gs k.stock k.back w ≡ kept_step a o gs k w
  unfolding kept_of_act
  by_step o gs k w = ap (λ (x : Timing). timed x a.actor o gs k.stock k.back w) (sym is ∙ told)

  pub stepped : (o : Answer) (gs : List Grant) (k : Known) (w : Kept) (r : Batches) (sizes rows last makers clocks : List ℕ) → Shows r sizes rows last makers clocks (timed e a.actor o gs k.stock k.back w) → Shows r sizes rows last makers clocks (kept_step a o gs k w)
  stepped o gs k w r sizes rows last makers clocks s = shown r sizes rows last makers clocks _ _ (by_step o gs k w) s

-- the same of a step at rest
able_failed : (a : Step) (d : Timing) (o : Answer) (clocks : List ℕ) → d ≡ timing_of a.act → d ≡ Tries → AbleAtRest (timing_of a.act) a.actor o clocks → (MayTick a.actor clocks) × (is_failed o ≡ true)
able_failed a d o clocks told is h = subst (λ (x : Timing). AbleAtRest x a.actor o clocks) (sym told ∙ is) h

pub able_tick : (a : Step) (d : Timing) (o : Answer) (clocks : List ℕ) → d ≡ timing_of a.act → d ≡ Tries → AbleAtRest (timing_of a.act) a.actor o clocks → MayTick a.actor clocks
able_tick a d o clocks told is h = (able_failed a d o clocks told is h).0

module _ (a : Step) (d : Timing) (told : d ≡ timing_of a.act) (o : Answer) (last makers clocks : List ℕ) where
  rests : (e : Timing) (makers' clocks' : List ℕ) → d ≡ e
      → ((b : Batches) (sizes rows : List ℕ) (k : ℕ) → kept_of b sizes rows last makers' clocks' ≡ timed e a.actor o [] k 0 (kept_of b sizes rows last makers clocks))
      → RestsInTimes a o last makers' clocks' makers clocks
  rests e makers' clocks' is h = λ b sizes rows k f. h b sizes rows k ∙ by_step a d e told is o [] (record { stock = k; back = 0; ticks = f }) (kept_of b sizes rows last makers clocks)

  pub rests_making : (makers' : List ℕ) → d ≡ Makes
      → ((b : Batches) (sizes rows last : List ℕ) → kept_of b sizes rows last makers' clocks ≡ store o a.actor (kept_of b sizes rows last makers clocks))
      → RestsInTimes a o last makers' clocks makers clocks
  rests_making makers' is h = rests Makes makers' clocks is (λ b sizes rows k. h b sizes rows last)

  pub rests_trying : (clocks' : List ℕ) → d ≡ Tries → AbleAtRest (timing_of a.act) a.actor o clocks
      → ((b : Batches) (sizes rows makers : List ℕ) → kept_of b sizes rows last makers clocks' ≡ fail_try a.actor (kept_of b sizes rows last makers clocks))
      → RestsInTimes a o last makers clocks' makers clocks
  unfolding take_each
  rests_trying clocks' is s h =
      rests Tries makers clocks' is (λ b sizes rows k. h b sizes rows makers ∙ tried_so o a.actor (kept_of b sizes rows last makers clocks) (able_failed a d o clocks told is s).1)

  pub rests_unchanged : (d ≡ Takes) ⊎ ((d ≡ Gives) ⊎ (d ≡ Stays)) → RestsInTimes a o last makers clocks makers clocks
  unfolding take_each grant_each release
  rests_unchanged (inl is) = rests Takes makers clocks is (λ b sizes rows k. refl)
  rests_unchanged (inr (inl is)) = rests Gives makers clocks is (λ b sizes rows k. refl)
  rests_unchanged (inr (inr is)) = rests Stays makers clocks is (λ b sizes rows k. refl)
