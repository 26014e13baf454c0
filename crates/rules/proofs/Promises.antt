-- Demand 3, proved: six promises about every run from an accepted fresh state, made by `new` or by `const_new`, with any starting clocks.
-- `steps` is any list of steps, accepted and refused mixed, of any actors and any numbers: so each promise holds after every call of every run.
use Rattle.std.specs.Prelude.{Some}
use Prim.Native.Nat.{◌+◌}
use mathlib.Core.Path.{◌≡◌, refl}
use mathlib.Core.Bool.{false}
use mathlib.Core.List.{List, [], ◌∷◌, ◌++◌, map}
use Rattle.rules.specs.declared.Fairness.TheVariants.{StrictlyFair}
use Rattle.rules.specs.declared.Step.{Step}
use Rattle.rules.specs.State.{Batch, State, stock}
use Rattle.rules.specs.Fresh.{Start, fresh, refuses12}
use Rattle.rules.specs.Scan.{scan}
use Rattle.rules.specs.Runs.{Said, step, run}
use Rattle.rules.specs.Broken.{broken}
use Rattle.rules.specs.Sound.{AddUp}
use Rattle.rules.specs.Promises.{Each, EachPair, granted_in, released_in, given_up_in, NobodyStranded, grants_of, watch_walk, watch_run, PassesOnlySuch, CountsFit, GrantFits, StartFits, StepFits}
use Rattle.rules.proofs.Soundness.{sound-unbroken}
use Rattle.rules.proofs.KeepsSteps.{sound-run, sound-fresh}
use Rattle.rules.proofs.Conservation.{run_balance}
use Rattle.rules.proofs.Stranded.{served_run, served_fresh}
use Rattle.rules.proofs.PassedOver.{Watches, watches_walk, watches_run, run-watched}
use Rattle.rules.proofs.GrantsFit.{grants-fit}
use Rattle.rules.proofs.KeepsCounts.{fitting_run, fitting_fresh, counts-fit}

module _ (start : Start) (accepted : refuses12 start ≡ false) (steps : List Step) where
  -- 1. Conservation: the stock and the permits granted are the starting stock and the permits released, or given up by a holder dropped before it
  -- completed.
  pub conservation :
      stock (run steps (fresh start)).state + granted_in (run steps (fresh start)).said
      ≡ start.stock + (released_in steps (fresh start) + given_up_in steps (fresh start))
  unfolding fresh
  conservation = run_balance steps (fresh start) (sound-fresh start accepted)

  -- 2. Batches: once set up they add up to the stock; never more than 64; none of 0.
  pub batches : (bs : List Batch) → (run steps (fresh start)).state.permits.batches ≡ Some bs → AddUp bs (stock (run steps (fresh start)).state)
  batches = (sound-run steps (fresh start) (sound-fresh start accepted)).permits

  -- 3. Nobody is stranded: on a strictly fair semaphore each queued request up to and including the first that is not Bypassable asks for more than
  -- the stock.
  pub nobody_stranded : start.fairness ≡ StrictlyFair → NobodyStranded (run steps (fresh start)).state
  nobody_stranded f = (served_run steps (fresh start) (served_fresh start accepted f)).nobody

  -- 4. Who is passed over: on a strictly fair semaphore every grant of a release or a drop is from the queue: its request stands there at the moment
  -- when it is made, and ahead of it only Bypassable requests of unfinished tasks, each asking for more than is then in stock. Every other grant is
  -- taken by a try, or by a request that is not in the queue.
  pub passed_over : start.fairness ≡ StrictlyFair → EachPair PassesOnlySuch steps (watch_run steps (fresh start))
  passed_over f = run-watched steps (fresh start) (served_fresh start accepted f)

  -- 5. Never broken: no state reached is one that 14 refuses.
  pub never_broken : broken (run steps (fresh start)).state ≡ false
  never_broken = sound-unbroken _ (sound-run steps (fresh start) (sound-fresh start accepted))

  -- 6. Counts fit: where the starting numbers and those of the steps are at most 4,294,967,295, no count or clock entry passes it, and no slot, task
  -- or batch number its size; in the state and in the grants.
  pub counts_stay : StartFits start → Each StepFits steps → CountsFit (run steps (fresh start)).state
  counts_stay f g = counts-fit start.tasks _ (fitting_run start.tasks steps (fresh start) g (fitting_fresh start accepted f))

  pub grants_stay : StartFits start → Each StepFits steps
      → Each (λ (o : Said). Each (GrantFits start.tasks) o.grants) (run steps (fresh start)).said
  grants_stay f g = grants-fit start.tasks steps (fresh start) g (fitting_fresh start accepted f)

-- What promise 4 watches is what happens. The grants watched are those that the steps returned, in order.
pub watched-grants : (steps : List Step) (s : State) → map grants_of (watch_run steps s) ≡ map (λ (o : Said). o.grants) (run steps s).said
watched-grants = watches_run

-- And a watched scan makes the grants of the rules' own scan, and ends in its state.
pub watched-scan : (s : State) → Watches (watch_walk s.queue s []) (scan s)
unfolding scan
watched-scan s = watches_walk s.queue s []

-- Every call of a run is the last of some list of steps: a run goes on from the state that its first steps come to.
pub run_goes_on : (steps rest : List Step) (s : State) → (run (steps ++ rest) s).state ≡ (run rest (run steps s).state).state
unfolding run
run_goes_on [] rest s = refl
run_goes_on (a ∷ steps) rest s = run_goes_on steps rest (step a s).state
