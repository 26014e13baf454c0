-- Grounds one after another: the first that is given is said.
use Rattle.std.specs.Prelude.{Some, Result, Ok, Err}
use Prim.Native.Nat.{ℕ}
use mathlib.Core.Path.{◌≡◌, refl, sym, ap, ◌∙◌}
use mathlib.Core.Bool.{Bool, true, false, cond}
use mathlib.Core.List.{List, [], ◌∷◌, ◌++◌}
use Rattle.rules.specs.Refusals.{Ground, ◌if◌, first}
use Rattle.splitting.specs.Parts.{or_else}
use Rattle.replies.specs.declared.Refusal.{Refusal}
use Rattle.replies.specs.Answers.{number_of}
use Rattle.planning.specs.Plans.{Says}

-- ---- one ground after another
pub given_here : {n : ℕ} {b : Bool} {gs : List Ground} (w : Refusal) → number_of w ≡ n → b ≡ true → Says (Err w) (n if b ∷ gs)
given_here {n = n} {gs = gs} w e t = record { first = ap Some e ∙ sym (ap (λ (k : Bool). cond k (Some n) (first gs)) t) }

pub not_here : {n : ℕ} {b : Bool} {gs : List Ground} (r : Result (Unit {0}) Refusal) → b ≡ false → Says r gs → Says r (n if b ∷ gs)
not_here {n = n} {gs = gs} r f s = record { first = s.first ∙ sym (ap (λ (k : Bool). cond k (Some n) (first gs)) f) }

pub none_given : Says (Ok (record {})) []
none_given = record { first = refl }

-- ---- some grounds, then others
pub first-after : (gs hs : List Ground) → first (gs ++ hs) ≡ or_else (first gs) (first hs)
first-after [] hs = refl
first-after (g ∷ gs) hs = go g.given (first-after gs hs)
  where
    go : (b : Bool) → first (gs ++ hs) ≡ or_else (first gs) (first hs) → cond b (Some g.number) (first (gs ++ hs)) ≡ or_else (cond b (Some g.number) (first gs)) (first hs)
    go true e = refl
    go false e = e
