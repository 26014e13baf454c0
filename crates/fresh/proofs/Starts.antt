-- What holds of every start: 12 exactly where document 01 gives it, no second answer, and what comes back is shaped and sound.
use Rattle.std.specs.Prelude.{Result, Ok, Err, is_err}
use native.Mathlib.Omega.{arith}
use Prim.Native.Nat.{ℕ, ◌*◌}
use mathlib.Core.Path.{◌≡◌, refl, sym, ◌∙◌}
use mathlib.Core.Bool.{Bool, true, false, cond}
use mathlib.Core.List.{List}
use lib.ListN.{length}
use Rattle.rules.specs.Sizes.{slot_count}
use Rattle.rules.specs.Steps.{Outcome, quiet}
use Rattle.rules.specs.Steps.Answer.{done, refused}
use Rattle.rules.specs.Fresh.{Start, fresh, refused_fresh, refuses12}
use Rattle.rules.specs.Runs.{start}
use Rattle.rules.specs.Sound.{Sound}
use Rattle.rules.proofs.Bools.{by_cond}
use Rattle.rules.proofs.KeepsSteps.{sound-fresh, sound-refused}
use Rattle.state.specs.declared.BatchSemaphore.{BatchSemaphore}
use Rattle.state.specs.View.{Words, view_of, ShapedAll, Fit}
use Rattle.fresh.specs.declared.Refused.{Refused}
use Rattle.fresh.specs.Starting.{answer_of, state_out, Gives}

-- the answer tells whether 12 refused
told : (r : Result BatchSemaphore Refused) (d : Bool) → answer_of r ≡ cond d (refused 12) done → is_err r ≡ d
told (Err f) true e = refl
told (Err f) false e = let z : ◌≡◌ {A = ℕ} 0 1 = cc in absurd (omega arith)
told (Ok s) true e = let z : ◌≡◌ {A = ℕ} 0 1 = cc in absurd (omega arith)
told (Ok s) false e = refl

answers : (r : Result BatchSemaphore Refused) → answer_of r ≡ cond (is_err r) (refused 12) done
answers (Ok s) = refl
answers (Err f) = refl

sound-start : (a : Start) → Sound (start a).state
unfolding start
sound-start a = by_cond (λ (o : Outcome). Sound o.state) (refuses12 a) (λ e. sound-refused) (λ e. sound-fresh a e)

module _ (r : Result BatchSemaphore Refused) (w : Words) (a : Start) (g : Gives r w (start a)) where
  -- 12 exactly where document 01 gives it.
  pub refused_exactly : is_err r ≡ refuses12 a
  unfolding start
  refused_exactly = told r (refuses12 a) (g.answer ∙ go (refuses12 a))
    where
      go : (b : Bool) → (cond b (quiet (refused 12) refused_fresh) (quiet done (fresh a))).answer ≡ cond b (refused 12) done
      go true = refl
      go false = refl

  -- Accepted or refused, it is within its words, and a state that every step may count on.
  pub started_shaped : ShapedAll (state_out r) w
  started_shaped = g.shaped

  pub started_sound : Sound (view_of (state_out r) w)
  started_sound = rw g.view (sound-start a)

-- Accepted, it stands for the fresh state.
pub accepted-fresh : (s : BatchSemaphore) (w : Words) (a : Start) → Gives (Ok s) w (start a) → view_of s w ≡ fresh a
unfolding start
accepted-fresh s w a g =
    let f : refuses12 a ≡ false = sym (refused_exactly (Ok s) w a g) in
    g.view ∙ rw f

pub started_fit : (a : Start) {r : Result BatchSemaphore Refused} {w : Words} {gs : List ℕ} → Gives r w (start a) → length gs ≡ slot_count * 3 → Fit (state_out r) w gs
started_fit a {r = r} {w = w} g l = record { shaped = g.shaped; grants = l; sound = started_sound r w a g }

-- Two results that both meet the contract have the same answer and stand for the same state.
pub starts_once : (r q : Result BatchSemaphore Refused) (w v : Words) (o : Outcome) → Gives r w o → Gives q v o
    → (is_err r ≡ is_err q) × (answer_of r ≡ answer_of q) × (view_of (state_out r) w ≡ view_of (state_out q) v)
starts_once r q w v o g h =
    let a : answer_of r ≡ answer_of q = g.answer ∙ sym h.answer in
    (told r (is_err q) (a ∙ answers q), a, g.view ∙ sym h.view)
