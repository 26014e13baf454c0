-- No second answer fits: two results that meet the contract of a step of the same struct and words have the same answer, the same grants
-- (as many, too) and the same state; and where the step is refused, both are the very struct and the very words handed in.
use Rattle.std.specs.Prelude.{Option, None, Some}
use Prim.Native.Nat.{ℕ}
use mathlib.Core.Path.{◌≡◌, refl, sym, ap, ◌∙◌}
use mathlib.Core.Bool.{Bool, true, false}
use mathlib.Core.List.{List}
use lib.ListN.{length}
use Rattle.rules.specs.declared.Step.{Step}
use Rattle.rules.specs.Refusals.{refusal}
use Rattle.rules.specs.Steps.{Outcome}
use Rattle.words.proofs.Grants.{grants-number}
use Rattle.state.specs.declared.BatchSemaphore.{BatchSemaphore}
use Rattle.state.specs.declared.Stepped.{Stepped}
use Rattle.state.specs.View.{Words, view_of, outcome_of}
use Rattle.broken.specs.Broken.{is_broken}
use Rattle.stepping.specs.Contract.{Refuses}
use Rattle.semaphore.specs.Contract.{Steps}
use Rattle.stepping.proofs.Carried.{refused-outcome}

-- what a step leaves: the struct, the words of the state, and those of the grants
pub record SameLeft (r : Stepped) (v : Words) (hs : List ℕ) (q : Stepped) (u : Words) (is : List ℕ) : Type 0 where
  pub struct : r.state ≡ q.state
  pub words : v ≡ u
  pub grants : hs ≡ is

module _ (s : BatchSemaphore) (w : Words) (gs : List ℕ) (a : Step) (r q : Stepped) (v u : Words) (hs is : List ℕ)
    (h : Steps s w gs a r v hs) (k : Steps s w gs a q u is) where
  same-refusal : (n : ℕ) → Refuses n s w gs r v hs → Refuses n s w gs q u is → outcome_of r v hs ≡ outcome_of q u is
  same-refusal n x y = refused-outcome s w gs a r v hs n x ∙ sym (refused-outcome s w gs a q u is n y)

  pub one_answer : outcome_of r v hs ≡ outcome_of q u is
  one_answer = by_broken (is_broken s w gs) refl
    where
      by_refusal : is_broken s w gs ≡ false → (o : Option ℕ) → refusal a (view_of s w) ≡ o → outcome_of r v hs ≡ outcome_of q u is
      by_refusal f None e = h.accepted f e ∙ sym (k.accepted f e)
      by_refusal f (Some n) e = same-refusal n (h.refused f n e) (k.refused f n e)

      by_broken : (b : Bool) → is_broken s w gs ≡ b → outcome_of r v hs ≡ outcome_of q u is
      by_broken true f = same-refusal 14 (h.broken f) (k.broken f)
      by_broken false f = by_refusal f (refusal a (view_of s w)) refl

  -- as many grants, too
  pub one_count : r.count ≡ q.count
  one_count = sym (grants-number r.count hs) ∙ ap (λ (o : Outcome). length o.grants) one_answer ∙ grants-number q.count is

  same_left : (n : ℕ) → Refuses n s w gs r v hs → Refuses n s w gs q u is → SameLeft r v hs q u is
  same_left n x y = record { struct = x.state ∙ sym y.state; words = x.words ∙ sym y.words; grants = x.grants ∙ sym y.grants }

  pub broken-same : is_broken s w gs ≡ true → SameLeft r v hs q u is
  broken-same f = same_left 14 (h.broken f) (k.broken f)

  pub refused-same : is_broken s w gs ≡ false → (n : ℕ) → refusal a (view_of s w) ≡ Some n → SameLeft r v hs q u is
  refused-same f n e = same_left n (h.refused f n e) (k.refused f n e)
