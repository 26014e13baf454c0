-- Calls that meet their contracts say and do what document 01's run of their steps says and does.
use mathlib.Core.Path.{◌≡◌, refl, ap, ◌∙◌}
use mathlib.Core.List.{List, [], ◌∷◌}
use Rattle.rules.specs.Steps.{Outcome}
use Rattle.rules.specs.Runs.{Said, run}
use Rattle.state.specs.View.{outcome_of}
use Rattle.promises.proofs.Begun.{any_room}
use Rattle.semaphore.proofs.Carried.{step_carried}
use Rattle.promises.specs.Calls.{Held, state_of, Unbroken, Call, after, Calls, left, steps_of, said_by}

pub record Carried (h : Held) (cs : List Call) : Type 0 where
  pub state : state_of (left h cs) ≡ (run (steps_of cs) (state_of h)).state
  pub said : said_by cs ≡ (run (steps_of cs) (state_of h)).said
  pub unbroken : Unbroken (left h cs)

abbrev saying : Outcome → Said
saying o = record { answer = o.answer; grants = o.grants }

pub carried : (cs : List Call) (h : Held) → Unbroken h → Calls h cs → Carried h cs
unfolding Calls left run
carried [] h f k = record { state = refl; said = refl; unbroken = f }
carried (c ∷ cs) h f k =
    let g = f c.room k.0 in
    let e = step_carried h.struct h.words c.room c.step c.result c.words c.grants g k.1 in
    let t = carried cs (after c) (any_room c.result.state c.words c.grants (k.1.unbroken g)) k.2 in
    record {
      state = t.state ∙ ap (λ (o : Outcome). (run (steps_of cs) o.state).state) e;
      said =
          ap (λ (xs : List Said). saying (outcome_of c.result c.words c.grants) ∷ xs) t.said
          ∙ ap (λ (o : Outcome). saying o ∷ (run (steps_of cs) o.state).said) e;
      unbroken = t.unbroken;
    }
