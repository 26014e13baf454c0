-- The one theorem: whatever was called after an accepted start, if each call met its contract then all six promises hold.
use Rattle.std.specs.Prelude.{Some, Ok}
use Prim.Native.Nat.{◌+◌}
use mathlib.Core.Path.{◌≡◌, sym, ap, subst, ◌∙◌}
use mathlib.Core.Bool.{false}
use mathlib.Core.List.{List, map}
use Rattle.rules.specs.State.{Batch, State, stock}
use Rattle.rules.specs.Fresh.{Start, fresh, refuses12}
use Rattle.rules.specs.Runs.{Said, run}
use Rattle.rules.specs.Sound.{AddUp}
use Rattle.rules.specs.Promises.{Each, granted_in, NobodyStranded, CountsFit, GrantFits}
use Rattle.rules.proofs.Promises.{conservation, batches, nobody_stranded, passed_over, counts_stay, grants_stay, watched-grants}
use Rattle.state.specs.declared.BatchSemaphore.{BatchSemaphore}
use Rattle.state.specs.View.{Words}
use Rattle.fresh.proofs.Starts.{refused_exactly, accepted-fresh}
use Rattle.promises.proofs.Begun.{started_unbroken}
use Rattle.promises.specs.Calls.{Begins, Held, state_of, Call, Calls, left, steps_of, said_by}
use Rattle.promises.specs.Promised.{Promised}
use Rattle.promises.proofs.Carried.{Carried, carried}

module _ (a : Start) (m : BatchSemaphore) (w : Words) (b : Begins a m w) (cs : List Call) (k : Calls (record { struct = m; words = w }) cs) where
  abbrev first : Held
  first = record { struct = m; words = w }

  begun : state_of first ≡ fresh a
  begun = accepted-fresh m w a b

  allowed : refuses12 a ≡ false
  allowed = sym (refused_exactly (Ok m) w a b)

  held : Carried first cs
  held = carried cs first (λ room e. started_unbroken (Ok m) w room a b e) k

  now : state_of (left first cs) ≡ (run (steps_of cs) (fresh a)).state
  now = held.state ∙ ap (λ (s : State). (run (steps_of cs) s).state) begun

  says : said_by cs ≡ (run (steps_of cs) (fresh a)).said
  says = held.said ∙ ap (λ (s : State). (run (steps_of cs) s).said) begun

  pub promised : Promised a first cs
  promised =
      record {
        state = now;
        said = says;
        conservation =
            ap (λ (s : State). stock s + granted_in (said_by cs)) now
            ∙ ap (λ (xs : List Said). stock (run (steps_of cs) (fresh a)).state + granted_in xs) says
            ∙ conservation a allowed (steps_of cs);
        batches =
            subst (λ (s : State). (bs : List Batch) → s.permits.batches ≡ Some bs → AddUp bs (stock s)) (sym now) (batches a allowed (steps_of cs));
        nobody_stranded = λ f. subst NobodyStranded (sym now) (nobody_stranded a allowed (steps_of cs) f);
        passed_over = passed_over a allowed (steps_of cs);
        watched = watched-grants (steps_of cs) (fresh a) ∙ ap (λ (xs : List Said). map (λ (o : Said). o.grants) xs) (sym says);
        never_broken = held.unbroken;
        counts-fit = λ f g. subst CountsFit (sym now) (counts_stay a allowed (steps_of cs) f g);
        grants-fit = λ f g.
            subst (λ (xs : List Said). Each (λ (o : Said). Each (GrantFits a.tasks) o.grants) xs) (sym says)
            (grants_stay a allowed (steps_of cs) f g);
      }
