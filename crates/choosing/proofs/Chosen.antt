-- A step's effect is that of what it comes to.
use Prim.Native.Nat.{ℕ}
use mathlib.Core.Path.{◌≡◌, refl, sym}
use mathlib.Core.Bool.{false, false≢true}
use Rattle.rules.specs.declared.TaskId.{TaskId}
use Rattle.rules.specs.declared.Act.{Act}
use Rattle.rules.specs.declared.Act.TheVariants.{Acquire, AcquireBypassable, AcquireReserving, Upgrade, Poll, Try, TryUpgrade, Release, Drop, Close, Sleep, Finish}
use Rattle.rules.specs.declared.Dropping.{Dropping}
use Rattle.rules.specs.declared.Dropping.TheVariants.{Leaving, Unreserving, Returning, Nothing}
use Rattle.rules.specs.Refusals.{returned}
use Rattle.splitting.specs.Plain.{Plain, asked_at}
use Rattle.splitting.specs.Who as W
use Rattle.splitting.specs.Times.{back_of}
use Rattle.choosing.specs.Choice.{choice_of, effect_by, drop_moves, moves_in}

pub effect_chosen : (t : TaskId) (a : Act) (p : Plain) → W.effect_of t a p ≡ effect_by t (choice_of a p) p
unfolding W.effect_of W.make W.poll W.drop_request choice_of effect_by
effect_chosen t (Acquire n) p = refl
effect_chosen t (AcquireBypassable n) p = refl
effect_chosen t (AcquireReserving least n) p = refl
effect_chosen t (Upgrade held wanted) p = refl
effect_chosen t (Poll x) p = refl
effect_chosen t (Try n) p = refl
effect_chosen t (TryUpgrade held wanted) p = refl
effect_chosen t (Release n) p = refl
effect_chosen t (Drop x) p = refl
effect_chosen t Close p = refl
effect_chosen t Sleep p = refl
effect_chosen t Finish p = refl

-- What moves nothing gives nothing back.
none_returned : (d : Dropping) (n : ℕ) → drop_moves d ≡ false → returned d n ≡ 0
none_returned Leaving n e = refl
none_returned Unreserving n e = refl
none_returned Returning n e = absurd (false≢true (sym e))
none_returned Nothing n e = refl

pub none_back : (a : Act) (p : Plain) → moves_in (choice_of a p) ≡ false → back_of a p ≡ 0
unfolding choice_of
none_back (Acquire n) p e = refl
none_back (AcquireBypassable n) p e = refl
none_back (AcquireReserving least n) p e = refl
none_back (Upgrade held wanted) p e = refl
none_back (Poll x) p e = refl
none_back (Try n) p e = refl
none_back (TryUpgrade held wanted) p e = refl
none_back (Release n) p e = absurd (false≢true (sym e))
none_back (Drop x) p e = none_returned (W.dropping x p) (asked_at x p) e
none_back Close p e = refl
none_back Sleep p e = refl
none_back Finish p e = refl
