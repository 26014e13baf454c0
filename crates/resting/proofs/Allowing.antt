-- A step that is not refused has a slot for the request that it makes.
use Rattle.std.specs.Prelude.{None}
use Prim.Native.Nat.{ℕ, ◌<◌}
use native.Mathlib.Omega.{arith}
use mathlib.Core.Path.{◌≡◌, refl, sym, ap, subst, ◌∙◌}
use mathlib.Core.Bool.{Bool, true, false, false≢true}
use Rattle.rules.specs.declared.TaskId.{TaskId}
use Rattle.rules.specs.declared.Ask.{Ask}
use Rattle.rules.specs.declared.Act.{Act}
use Rattle.rules.specs.declared.Act.TheVariants.{Acquire, AcquireBypassable, AcquireReserving, Upgrade, Poll, Try, TryUpgrade, Release, Drop, Close, Sleep, Finish}
use Rattle.rules.specs.declared.Step.{Step}
use Rattle.rules.specs.Sizes.{slot_count}
use Rattle.rules.specs.State.{State}
use Rattle.rules.proofs.Accepting.{Allowed, accepted}
use Rattle.rules.proofs.Accepting as A
use Rattle.splitting.specs.Plain.{Plain}
use Rattle.splitting.specs.Who as W
use Rattle.splitting.specs.Split.{forget, lift}
use Rattle.splitting.proofs.Changes.{free-plain}
use Rattle.splitting.proofs.Fitness.{forget-lift}
use Rattle.splitting.proofs.Splitting.{refusal_of_lift}
use Rattle.choosing.specs.declared.Choice.{Choice}
use Rattle.choosing.specs.declared.Choice.TheVariants.{Makes, Polls, Tries, Releases, Drops, Closes, Sleeps, Finishes}
use Rattle.choosing.specs.Choice.{choice_of}
use Rattle.resting.specs.Resting.{HasSlot}

makes_in : (n : ℕ) (k : Ask) → n < slot_count → HasSlot (Makes n k)
makes_in n k l i a e = let z : n ≡ i = cc in subst (λ (m : ℕ). m < slot_count) z l

-- no other choice makes a request
abbrev making : Choice → Bool
making (Makes i a) = true
making (Polls x n q) = false
making (Tries n d) = false
making (Releases n) = false
making (Drops x n d) = false
making Closes = false
making Sleeps = false
making Finishes = false

makes_none : (c : Choice) → making c ≡ false → HasSlot c
makes_none c f i a e = absurd (false≢true (sym f ∙ ap making e))

module _ (s : State) where
  slot-free : A.HasSlot s → W.lowest_free (forget s).slots < slot_count
  slot-free l = omega (arith, l, free-plain s.slots)

  has_slot_act : (t : TaskId) (a : Act) → Allowed t a s → HasSlot (choice_of a (forget s))
  unfolding choice_of
  has_slot_act t (Acquire n) k = makes_in _ _ (slot-free k)
  has_slot_act t (AcquireBypassable n) k = makes_in _ _ (slot-free k)
  has_slot_act t (AcquireReserving least n) k = makes_in _ _ (slot-free k.3)
  has_slot_act t (Upgrade held wanted) k = makes_in _ _ (slot-free k.1)
  has_slot_act t (Poll x) k = makes_none _ refl
  has_slot_act t (Try n) k = makes_none _ refl
  has_slot_act t (TryUpgrade held wanted) k = makes_none _ refl
  has_slot_act t (Release n) k = makes_none _ refl
  has_slot_act t (Drop x) k = makes_none _ refl
  has_slot_act t Close k = makes_none _ refl
  has_slot_act t Sleep k = makes_none _ refl
  has_slot_act t Finish k = makes_none _ refl

pub has_slot : (a : Step) (p : Plain) (c : Choice) → W.refusal a p ≡ None → c ≡ choice_of a.act p → HasSlot c
has_slot a p c e ec =
    subst HasSlot (sym ec)
    (subst (λ (q : Plain). HasSlot (choice_of a.act q)) (forget-lift p)
    (has_slot_act (lift p) a.actor a.act (accepted a (lift p) (sym (refusal_of_lift a p) ∙ e)).allowed))
