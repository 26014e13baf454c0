-- What a step of the engine without clocks is said to do.
use Rattle.std.specs.Prelude.{ℕ, ◌≡◌, List, Option, None, Some}
use Rattle.rules.specs.declared.Step.{Step}
use Rattle.rules.specs.Steps.Answer.{refused}
use Rattle.splitting.specs.Who as W
use Rattle.splitting.specs.Fitness.{SoundPlain}
use Rattle.replies.specs.Answers.{answer_of}
use Rattle.head.specs.declared.Head.{Head}
use Rattle.head.specs.declared.Answered.{Answered}
use Rattle.head.specs.View.{plain_of, Shaped, Answers}

-- a head and the words of slots and tasks that a step counts on
pub record Ready (h : Head) (ss ts : List ℕ) : Type 0 where
  pub shaped : Shaped h ss ts
  pub sound : SoundPlain (plain_of h ss ts)

-- refused by a number: the very head and the very words, and no grants
pub record Refuses (r : Answered) (n : ℕ) (ss ts gs : List ℕ) (h : Head) (ss₀ ts₀ gs₀ : List ℕ) : Type 0 where
  pub answer : answer_of r.reply ≡ refused n
  pub count : r.count ≡ 0
  pub head : r.head ≡ h
  pub slots : ss ≡ ss₀
  pub tasks : ts ≡ ts₀
  pub grants : gs ≡ gs₀

-- by the first refusal, if there is one, and else the rules' effect
abbrev pub DoesBy : Option ℕ → W.Outcome → Answered → List ℕ → List ℕ → List ℕ → Head → List ℕ → List ℕ → List ℕ → Type 0
DoesBy None o r ss ts gs h ss₀ ts₀ gs₀ = Answers r ss ts gs o
DoesBy (Some n) o r ss ts gs h ss₀ ts₀ gs₀ = Refuses r n ss ts gs h ss₀ ts₀ gs₀

-- and what is left is ready for the next
pub record Steps (r : Answered) (ss ts gs : List ℕ) (a : Step) (h : Head) (ss₀ ts₀ gs₀ : List ℕ) : Type 0 where
  pub does : DoesBy (W.refusal a (plain_of h ss₀ ts₀)) (W.effect a (plain_of h ss₀ ts₀)) r ss ts gs h ss₀ ts₀ gs₀
  pub ready : Ready r.head ss ts
