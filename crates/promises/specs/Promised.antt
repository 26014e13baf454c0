-- Demand 3, of the calls themselves: what holds after calls `cs` that began with `h`, made fresh as `a` says.
use Rattle.std.specs.Prelude.{◌+◌, ◌≡◌, List, map, Some}
use Rattle.rules.specs.declared.Fairness.TheVariants.{StrictlyFair}
use Rattle.rules.specs.State.{Batch, stock}
use Rattle.rules.specs.Fresh.{Start, fresh}
use Rattle.rules.specs.Runs.{Said, run}
use Rattle.rules.specs.Sound.{AddUp}
use Rattle.rules.specs.Promises.{Each, EachPair, granted_in, released_in, given_up_in, NobodyStranded, grants_of, watch_run, PassesOnlySuch, CountsFit, GrantFits, StartFits, StepFits}
use Rattle.promises.specs.Calls.{Held, state_of, Unbroken, Call, left, steps_of, said_by}

pub record Promised (a : Start) (h : Held) (cs : List Call) : Type 0 where
  -- 0. As document 01's run: what is held stands for the state that the rules come to by the same steps, and the calls said what the rules say.
  pub state : state_of (left h cs) ≡ (run (steps_of cs) (fresh a)).state
  pub said : said_by cs ≡ (run (steps_of cs) (fresh a)).said
  -- 1. Conservation: the stock and the permits granted are the starting stock and the permits released, or given up by a holder dropped before it
  -- completed.
  pub conservation :
      stock (state_of (left h cs)) + granted_in (said_by cs) ≡ a.stock + (released_in (steps_of cs) (fresh a) + given_up_in (steps_of cs) (fresh a))
  -- 2. Batches: once set up they add up to the stock; never more than 64; none of 0.
  pub batches : (bs : List Batch) → (state_of (left h cs)).permits.batches ≡ Some bs → AddUp bs (stock (state_of (left h cs)))
  -- 3. Nobody is stranded: on a strictly fair semaphore each queued request up to and including the first that is not Bypassable asks for more
  -- than the stock.
  pub nobody_stranded : a.fairness ≡ StrictlyFair → NobodyStranded (state_of (left h cs))
  -- 4. Who is passed over: on a strictly fair semaphore every grant of a release or a drop is from the queue: its request stands there at the moment
  -- when it is made, and ahead of it only Bypassable requests of unfinished tasks, each asking for more than is then in stock. Every other grant is
  -- taken by a try, or by a request that is not in the queue. The grants watched are those that the calls returned.
  pub passed_over : a.fairness ≡ StrictlyFair → EachPair PassesOnlySuch (steps_of cs) (watch_run (steps_of cs) (fresh a))
  pub watched : map grants_of (watch_run (steps_of cs) (fresh a)) ≡ map (λ (o : Said). o.grants) (said_by cs)
  -- 5. Never broken: no call of these meets 14, nor would the next.
  pub never_broken : Unbroken (left h cs)
  -- 6. Counts fit: where the numbers handed in are at most 4,294,967,295, as u32s are, no count or clock entry passes it, and no slot, task or batch
  -- number its size; in what is held and in the grants.
  pub counts-fit : StartFits a → Each StepFits (steps_of cs) → CountsFit (state_of (left h cs))
  pub grants-fit : StartFits a → Each StepFits (steps_of cs) → Each (λ (o : Said). Each (GrantFits a.tasks) o.grants) (said_by cs)
