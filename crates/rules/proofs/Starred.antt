-- Document 01, "Runs to prove and to try": the starred ones, as one list with one proof. Two tasks, zero clocks, `new`, made by task 0.
use Rattle.std.specs.Prelude.{Option, None, Some}
use Prim.Native.Nat.{ℕ}
use mathlib.Core.Path.{◌≡◌, refl}
use mathlib.Core.List.{List, [], ◌∷◌, ◌++◌, map}
use lib.ListN.{take, replicate}
use Rattle.rules.specs.declared.TaskId.{TaskId}
use Rattle.rules.specs.declared.Slot.{Slot}
use Rattle.rules.specs.declared.Step.{Step}
use Rattle.rules.specs.declared.Grant.{Grant}
use Rattle.rules.specs.declared.Taker.{Taker}
use Rattle.rules.specs.declared.Taker.TheVariants.{BySlot, ByTry}
use Rattle.rules.specs.declared.Fairness.{Fairness}
use Rattle.rules.specs.declared.Fairness.TheVariants.{StrictlyFair, Unfair}
use Rattle.rules.specs.Clock.{Clock, join, tick, empty}
use Rattle.rules.specs.Task.{Task}
use Rattle.rules.specs.State.{stock, available}
use Rattle.rules.specs.Fresh.{Start, first_batch, fresh_tasks, fresh_batches, fresh, refuses12}
use Rattle.rules.specs.Taking.{standing_of, standing, eat, taking, take_as, take_queued, adding, all_bypassable, direct}
use Rattle.rules.specs.Scan.{without, verdict, grant_queued, walk, scan}
use Rattle.rules.specs.Waking.{wake_each, wake_unfair, reblock_each, reblock}
use Rattle.rules.specs.Polling.{poll_reserving, poll_plain, polling, poll_work}
use Rattle.rules.specs.Steps.{◌does◌, Answer, lowest_free, make, try_by, poll, release, dropping, drop_queued, drop_work, drop_request, empty_queue, closing, effect_of}
use Rattle.rules.specs.declared.Act.TheVariants.{Acquire, AcquireBypassable, Upgrade, Poll, Try, Release, Close}
use Rattle.rules.specs.Steps.Answer.{done, granted, pending, closed, none_left, made, refused}
use Rattle.rules.specs.Refusals.{grounds, refusal}
use Rattle.rules.specs.Runs.{Said, step, start, run}

pub record Case : Type 0 where
  pub fairness : Fairness
  pub stock : ℕ
  pub steps : List Step

-- what a case shows at its end: each step's answer, who took permits, and the state
pub record Seen : Type 0 where
  pub answers : List Answer
  pub takers : List Taker
  pub available : ℕ
  pub stock : ℕ
  pub queue : List Slot
  pub reservation : Option Slot
  pub clocks : List Clock

unfoldable pub takers : List Said → List Taker
takers [] = []
takers (x ∷ xs) = map (λ (g : Grant). g.taker) x.grants ++ takers xs

unfoldable pub seen : Case → Seen
seen c =
    let zeros : Start = record { fairness = c.fairness; stock = c.stock; tasks = 2; clocks = replicate 4 0; maker = Some (record { 0 = 0 }) } in
    let r = run c.steps (start zeros).state in
    record {
      answers = map (λ (x : Said). x.answer) r.said;
      takers = takers r.said;
      available = available r.state;
      stock = stock r.state;
      queue = r.state.queue;
      reservation = r.state.reservation;
      clocks = map (λ (t : Task). take 2 t.clock) r.state.tasks;
    }

abbrev t0 : TaskId
t0 = record { 0 = 0 }

abbrev t1 : TaskId
t1 = record { 0 = 1 }

abbrev x0 : Slot
x0 = record { 0 = 0 }

abbrev x1 : Slot
x1 = record { 0 = 1 }

abbrev x2 : Slot
x2 = record { 0 = 2 }

abbrev zero-clocks : List Clock
zero-clocks = (0 ∷ 0 ∷ []) ∷ (0 ∷ 0 ∷ []) ∷ []

unfoldable pub cases : List Case
cases =
    -- K1 strict 0, try 1
    record { fairness = StrictlyFair; stock = 0; steps = t0 does Try 1 ∷ [] }
    -- K2 strict 3: try 4, try 3
    ∷ record { fairness = StrictlyFair; stock = 3; steps = t0 does Try 4 ∷ t0 does Try 3 ∷ [] }
    -- K3 closed: poll of plain 0, try 0
    ∷ record { fairness = StrictlyFair; stock = 0; steps = t0 does Acquire 0 ∷ t0 does Close ∷ t0 does Poll x0 ∷ t0 does Try 0 ∷ [] }
    -- K3 open: both
    ∷ record { fairness = StrictlyFair; stock = 0; steps = t0 does Acquire 0 ∷ t0 does Poll x0 ∷ t0 does Try 0 ∷ [] }
    -- K6 strict 0, upgrades of 1 in slots 0, 1, polled in that order; release 1
    ∷ record {
      fairness = StrictlyFair;
      stock = 0;
      steps = t0 does Upgrade 1 2 ∷ t0 does Upgrade 1 2 ∷ t0 does Poll x0 ∷ t0 does Poll x1 ∷ t0 does Release 1 ∷ [];
    }
    -- K7 strict 0, queue Bypassable 3, Back 1, Back 2; release 2
    ∷ record {
      fairness = StrictlyFair;
      stock = 0;
      steps =
          t0 does AcquireBypassable 3 ∷ t0 does Acquire 1 ∷ t0 does Acquire 2
          ∷ t0 does Poll x0 ∷ t0 does Poll x1 ∷ t0 does Poll x2 ∷ t0 does Release 2 ∷ [];
    }
    -- K8 unfair 0, upgrade 1 to 3 polled
    ∷ record { fairness = Unfair; stock = 0; steps = t0 does Upgrade 1 3 ∷ t0 does Poll x0 ∷ [] }
    -- K9 then release 1, try 1
    ∷ record { fairness = Unfair; stock = 0; steps = t0 does Upgrade 1 3 ∷ t0 does Poll x0 ∷ t0 does Release 1 ∷ t0 does Try 1 ∷ [] }
    -- K9 release 1, poll
    ∷ record {
      fairness = Unfair;
      stock = 0;
      steps =
          t0 does Upgrade 1 3 ∷ t0 does Poll x0 ∷ t0 does Release 1 ∷ t0 does Try 1 ∷ t0 does Release 1 ∷ t0 does Poll x0 ∷ [];
    }
    -- K15 strict 0, task 0 releases 1, task 1 tries 1
    ∷ record { fairness = StrictlyFair; stock = 0; steps = t0 does Release 1 ∷ t1 does Try 1 ∷ [] }
    ∷ []

unfoldable pub wanted : List Seen
wanted =
    -- K1 none, own entry 1
    record {
      answers = none_left ∷ [];
      takers = [];
      available = 0;
      stock = 0;
      queue = [];
      reservation = None;
      clocks = (1 ∷ 0 ∷ []) ∷ (0 ∷ 0 ∷ []) ∷ [];
    }
    -- K2 none, granted
    ∷ record {
      answers = none_left ∷ granted ∷ [];
      takers = ByTry ∷ [];
      available = 0;
      stock = 0;
      queue = [];
      reservation = None;
      clocks = (2 ∷ 0 ∷ []) ∷ (0 ∷ 0 ∷ []) ∷ [];
    }
    -- K3 Closed, 5
    ∷ record {
      answers = made x0 ∷ done ∷ closed ∷ refused 5 ∷ [];
      takers = [];
      available = 0;
      stock = 0;
      queue = [];
      reservation = None;
      clocks = zero-clocks;
    }
    -- K3 5, 5
    ∷ record {
      answers = made x0 ∷ refused 5 ∷ refused 5 ∷ [];
      takers = [];
      available = 0;
      stock = 0;
      queue = [];
      reservation = None;
      clocks = zero-clocks;
    }
    -- K6 grants slot 1
    ∷ record {
      answers = made x0 ∷ made x1 ∷ pending ∷ pending ∷ done ∷ [];
      takers = BySlot x1 ∷ [];
      available = 0;
      stock = 0;
      queue = x0 ∷ [];
      reservation = None;
      clocks = (1 ∷ 0 ∷ []) ∷ (0 ∷ 0 ∷ []) ∷ [];
    }
    -- K7 grants only the second; stock 1
    ∷ record {
      answers = made x0 ∷ made x1 ∷ made x2 ∷ pending ∷ pending ∷ pending ∷ done ∷ [];
      takers = BySlot x1 ∷ [];
      available = 1;
      stock = 1;
      queue = x0 ∷ x2 ∷ [];
      reservation = None;
      clocks = (1 ∷ 0 ∷ []) ∷ (0 ∷ 0 ∷ []) ∷ [];
    }
    -- K8 Pending, reserved, queue empty
    ∷ record {
      answers = made x0 ∷ pending ∷ [];
      takers = [];
      available = 0;
      stock = 0;
      queue = [];
      reservation = Some x0;
      clocks = zero-clocks;
    }
    -- K9 available 0, stock 1, try 1 none
    ∷ record {
      answers = made x0 ∷ pending ∷ done ∷ none_left ∷ [];
      takers = [];
      available = 0;
      stock = 1;
      queue = [];
      reservation = Some x0;
      clocks = (2 ∷ 0 ∷ []) ∷ (0 ∷ 0 ∷ []) ∷ [];
    }
    -- K9 granted, stock 0
    ∷ record {
      answers = made x0 ∷ pending ∷ done ∷ none_left ∷ done ∷ granted ∷ [];
      takers = BySlot x0 ∷ [];
      available = 0;
      stock = 0;
      queue = [];
      reservation = None;
      clocks = (4 ∷ 0 ∷ []) ∷ (0 ∷ 0 ∷ []) ∷ [];
    }
    -- K15 its clock is (1, 1)
    ∷ record {
      answers = done ∷ granted ∷ [];
      takers = ByTry ∷ [];
      available = 0;
      stock = 0;
      queue = [];
      reservation = None;
      clocks = (1 ∷ 0 ∷ []) ∷ (1 ∷ 1 ∷ []) ∷ [];
    }
    ∷ []

pub starred : map seen cases ≡ wanted
unfolding cases wanted seen takers join tick empty first_batch fresh_tasks fresh_batches fresh refuses12 standing_of standing eat taking take_as take_queued adding all_bypassable direct without verdict grant_queued walk scan wake_each wake_unfair reblock_each reblock poll_reserving poll_plain polling poll_work lowest_free make try_by poll release dropping drop_queued drop_work drop_request empty_queue closing effect_of grounds refusal step start run
starred = refl
