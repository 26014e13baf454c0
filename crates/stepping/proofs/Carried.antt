-- A step that is refused or accepted as it should be says and does what document 01's step says and does.
use Rattle.std.specs.Prelude.{Option, None, Some}
use Prim.Native.Nat.{ℕ}
use mathlib.Core.Path.{◌≡◌, refl, ap, ◌∙◌}
use mathlib.Core.List.{List, []}
use Rattle.rules.specs.declared.Step.{Step}
use Rattle.rules.specs.Steps.{effect}
use Rattle.rules.specs.Refusals.{refusal}
use Rattle.rules.specs.Runs.{unless, step}
use Rattle.words.specs.View.{grants_of}
use Rattle.words.proofs.Grants.{no_grants}
use Rattle.state.specs.declared.BatchSemaphore.{BatchSemaphore}
use Rattle.state.specs.declared.Stepped.{Stepped}
use Rattle.state.specs.View.{Words, view_of, outcome_of}
use Rattle.stepping.specs.Contract.{Refuses, StepsOn}

module _ (s : BatchSemaphore) (w : Words) (gs : List ℕ) (a : Step) (r : Stepped) (v : Words) (hs : List ℕ) where
  pub refused-outcome : (n : ℕ) → Refuses n s w gs r v hs → outcome_of r v hs ≡ unless (Some n) a (view_of s w)
  refused-outcome n k =
      let none-granted : grants_of r.count hs ≡ [] = ap (λ (m : ℕ). grants_of m hs) k.count ∙ no_grants hs in
      λ i. record { answer = k.answer i; grants = none-granted i; state = view_of (k.state i) (k.words i) }

  pub carried_by : ((n : ℕ) → refusal a (view_of s w) ≡ Some n → Refuses n s w gs r v hs) → (refusal a (view_of s w) ≡ None → outcome_of r v hs ≡ effect a (view_of s w))
      → outcome_of r v hs ≡ step a (view_of s w)
  unfolding step
  carried_by f g = go (refusal a (view_of s w)) refl
    where
      go : (o : Option ℕ) → refusal a (view_of s w) ≡ o → outcome_of r v hs ≡ unless o a (view_of s w)
      go None e = g e
      go (Some n) e = refused-outcome n (f n e)

  pub carried : StepsOn s w gs a r v hs → outcome_of r v hs ≡ step a (view_of s w)
  carried h = carried_by h.refused h.accepted
