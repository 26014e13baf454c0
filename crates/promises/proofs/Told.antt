-- Useless builds are caught: in each of these runs every result that meets the contract of its call prints this line and grants these counts, so
-- that no other answer does. The must-fail edits put a wrong answer in the place of a right one, two for each call.
use Rattle.std.specs.Prelude.{Some, Ok}
use Prim.Native.Nat.{ℕ}
use Prim.Native.String.{String}
use mathlib.Core.Path.{◌≡◌, refl, ap, ◌∙◌}
use mathlib.Core.List.{List, [], ◌∷◌, map}
use lib.ListN.{replicate}
use Rattle.rules.specs.declared.TaskId.{TaskId}
use Rattle.rules.specs.declared.Slot.{Slot}
use Rattle.rules.specs.declared.Step.{Step}
use Rattle.rules.specs.declared.Grant.{Grant}
use Rattle.rules.specs.declared.Fairness.{Fairness}
use Rattle.rules.specs.declared.Fairness.TheVariants.{StrictlyFair, Unfair}
use Rattle.rules.specs.declared.Act.TheVariants.{Acquire, AcquireBypassable, AcquireReserving, Upgrade, Poll, Try, TryUpgrade, Release, Drop, Close, Sleep, Finish}
use Rattle.rules.specs.Clock.{join, tick, empty}
use Rattle.rules.specs.State.{State}
use Rattle.rules.specs.Fresh.{Start, first_batch, fresh_tasks, fresh_batches, fresh, refuses12}
use Rattle.rules.specs.Taking.{standing_of, standing, eat, taking, take_as, take_queued, adding, all_bypassable, direct}
use Rattle.rules.specs.Scan.{without, verdict, grant_queued, walk, scan}
use Rattle.rules.specs.Waking.{wake_each, wake_unfair, reblock_each, reblock}
use Rattle.rules.specs.Polling.{poll_reserving, poll_plain, polling, poll_work}
use Rattle.rules.specs.Steps.{◌does◌, Outcome, lowest_free, make, try_by, poll, release, dropping, drop_queued, drop_work, drop_request, empty_queue, closing, effect_of}
use Rattle.rules.specs.Refusals.{grounds, refusal}
use Rattle.rules.specs.Runs.{step}
use Rattle.rules.specs.Text.{bytes, joined_by, last_digits, digits}
use Rattle.rules.specs.Script.{start_with, end_line, outcome_text}
use Rattle.rules.specs.Promises.{Each}
use Rattle.state.specs.declared.BatchSemaphore.{BatchSemaphore}
use Rattle.state.specs.View.{Words, view_of, outcome_of}
use Rattle.promises.proofs.Begun.{any_room}
use Rattle.fresh.proofs.Starts.{accepted-fresh}
use Rattle.promises.proofs.Begun.{started_unbroken}
use Rattle.semaphore.proofs.Carried.{step_carried}
use Rattle.promises.specs.Calls.{Held, state_of, Unbroken, Begins, Call, after, Calls, steps_of}

-- what a call shows: the line that semtrace prints for it, and the counts of its grants
pub record Shown : Type 0 where
  pub line : List ℕ
  pub granted : List ℕ

abbrev shown_by : Outcome → Shown
shown_by o = record { line = outcome_text o; granted = map (λ (g : Grant). g.count) o.grants }

abbrev pub shown_in : List Call → List Shown
shown_in cs = map (λ (c : Call). shown_by (outcome_of c.result c.words c.grants)) cs

-- what the rules show for steps, one after another
unfoldable shows : List Step → State → List Shown
shows [] s = []
shows (a ∷ as') s = let o = step a s in shown_by o ∷ shows as' o.state

-- whatever meets the contracts shows what the rules show
carried_shown : (cs : List Call) (h : Held) → Unbroken h → Calls h cs → shown_in cs ≡ shows (steps_of cs) (state_of h)
unfolding Calls shows
carried_shown [] h f k = refl
carried_shown (c ∷ cs) h f k =
    let g = f c.room k.0 in
    ap (λ (xs : List Shown). shown_by (outcome_of c.result c.words c.grants) ∷ xs)
    (carried_shown cs (after c) (any_room c.result.state c.words c.grants (k.1.unbroken g)) k.2)
    ∙ ap (λ (o : Outcome). shown_by o ∷ shows (steps_of cs) o.state)
    (step_carried h.struct h.words c.room c.step c.result c.words c.grants g k.1)

-- a step, the line that it prints and the counts that it grants
pub record Row : Type 0 where
  pub step : Step
  pub line : String
  pub granted : List ℕ

infix 70 ◌prints◌granting◌
abbrev ◌prints◌granting◌ : Step → String → List ℕ → Row
a prints t granting ns = record { step = a; line = t; granted = ns }

-- two tasks, zero clocks, made by task 0
pub record Case : Type 0 where
  pub fairness : Fairness
  pub stock : ℕ
  pub rows : List Row

abbrev pub t0 : TaskId
t0 = record { 0 = 0 }

abbrev pub t1 : TaskId
t1 = record { 0 = 1 }

abbrev pub s0 : Slot
s0 = record { 0 = 0 }

abbrev pub s1 : Slot
s1 = record { 0 = 1 }

abbrev start_of_case : Case → Start
start_of_case c = start_with c.fairness c.stock (Some t0) 2 (replicate 4 0)

-- a run for each call
unfoldable pub cases : List Case
cases =
    record {
      fairness = StrictlyFair;
      stock = 2;
      rows =
          (t0 does Acquire 2) prints "s0 2 2 0 0 -" granting []
          ∷ [];
    }
    ∷ record {
      fairness = StrictlyFair;
      stock = 3;
      rows =
          (t0 does AcquireBypassable 4) prints "s0 3 3 0 0 -" granting []
          ∷ (t0 does Poll s0) prints "pending 3 3 0 1 -" granting []
          ∷ (t1 does Try 3) prints "granted 0 0 0 1 t" granting (3 ∷ [])
          ∷ [];
    }
    ∷ record {
      fairness = Unfair;
      stock = 4;
      rows =
          (t0 does AcquireReserving 1 5) prints "s0 4 4 0 0 -" granting []
          ∷ (t0 does Poll s0) prints "pending 0 4 0 0 -" granting []
          ∷ [];
    }
    ∷ record {
      fairness = StrictlyFair;
      stock = 5;
      rows =
          (t0 does Upgrade 1 3) prints "s0 5 5 0 0 -" granting []
          ∷ (t0 does Poll s0) prints "granted 3 3 0 0 0" granting (2 ∷ [])
          ∷ [];
    }
    ∷ record {
      fairness = StrictlyFair;
      stock = 6;
      rows =
          (t0 does Try 7) prints "none 6 6 0 0 -" granting []
          ∷ (t0 does Try 6) prints "granted 0 0 0 0 t" granting (6 ∷ [])
          ∷ [];
    }
    ∷ record {
      fairness = StrictlyFair;
      stock = 7;
      rows =
          (t0 does TryUpgrade 2 5) prints "granted 4 4 0 0 t" granting (3 ∷ [])
          ∷ [];
    }
    ∷ record {
      fairness = StrictlyFair;
      stock = 8;
      rows =
          (t0 does Release 1) prints "done 9 9 0 0 -" granting []
          ∷ (t0 does Release 1) prints "done 10 10 0 0 -" granting []
          ∷ [];
    }
    ∷ record {
      fairness = StrictlyFair;
      stock = 14;
      rows =
          (t0 does Acquire 15) prints "s0 14 14 0 0 -" granting []
          ∷ (t0 does Poll s0) prints "pending 14 14 0 1 -" granting []
          ∷ (t1 does Acquire 13) prints "s1 14 14 0 1 -" granting []
          ∷ (t1 does Poll s1) prints "pending 14 14 0 2 -" granting []
          ∷ (t0 does Drop s0) prints "done 1 1 0 0 1" granting (13 ∷ [])
          ∷ (t1 does Poll s1) prints "granted 1 1 0 0 -" granting []
          ∷ [];
    }
    ∷ record {
      fairness = StrictlyFair;
      stock = 11;
      rows =
          (t0 does Acquire 12) prints "s0 11 11 0 0 -" granting []
          ∷ (t0 does Poll s0) prints "pending 11 11 0 1 -" granting []
          ∷ (t1 does Close) prints "done 11 11 1 0 -" granting []
          ∷ [];
    }
    ∷ record {
      fairness = StrictlyFair;
      stock = 12;
      rows =
          (t1 does Sleep) prints "done 12 12 0 0 -" granting []
          ∷ (t1 does Try 1) prints "r2 12 12 0 0 -" granting []
          ∷ [];
    }
    ∷ record {
      fairness = StrictlyFair;
      stock = 13;
      rows =
          (t1 does Finish) prints "done 13 13 0 0 -" granting []
          ∷ (t1 does Try 1) prints "r2 13 13 0 0 -" granting []
          ∷ [];
    }
    ∷ []

abbrev wanted : Case → List Shown
wanted c = map (λ (r : Row). record { line = end_line (bytes r.line); granted = r.granted }) c.rows

abbrev steps : Case → List Step
steps c = map (λ (r : Row). r.step) c.rows

-- by computing
by_rules : Each (λ (c : Case). shows (steps c) (fresh (start_of_case c)) ≡ wanted c) cases
unfolding cases shows join tick empty first_batch fresh_tasks fresh_batches fresh refuses12 standing_of standing eat taking take_as take_queued adding all_bypassable direct without verdict grant_queued walk scan wake_each wake_unfair reblock_each reblock poll_reserving poll_plain polling poll_work lowest_free make try_by poll release dropping drop_queued drop_work drop_request empty_queue closing effect_of grounds refusal step joined_by last_digits digits outcome_text
by_rules = (refl, (refl, (refl, (refl, (refl, (refl, (refl, (refl, (refl, (refl, (refl, tt)))))))))))

-- every run of calls that meet their contracts, from a struct that met its own, shows what is wanted
abbrev pub ToldBy : Case → Type 0
ToldBy c = (m : BatchSemaphore) (w : Words) → Begins (start_of_case c) m w → (cs : List Call) → Calls (record { struct = m; words = w }) cs → steps_of cs ≡ steps c → shown_in cs ≡ wanted c

one_told : (c : Case) → shows (steps c) (fresh (start_of_case c)) ≡ wanted c → ToldBy c
one_told c e m w b cs k same =
    carried_shown cs (record { struct = m; words = w }) (λ room i. started_unbroken (Ok m) w room (start_of_case c) b i) k
    ∙ ap (λ (xs : List Step). shows xs (view_of m w)) same
    ∙ ap (λ (s : State). shows (steps c) s) (accepted-fresh m w (start_of_case c) b)
    ∙ e

each_told : (cs : List Case) → Each (λ (c : Case). shows (steps c) (fresh (start_of_case c)) ≡ wanted c) cs → Each ToldBy cs
each_told [] h = h
each_told (c ∷ cs) h = (one_told c h.0, each_told cs h.1)

pub told : Each ToldBy cases
told = each_told cases by_rules
