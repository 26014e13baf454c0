-- A start put together from its parts: who, when, what 12 refuses, and what is accepted.
use Rattle.std.specs.Prelude.{Option, None, Some, is_some, Result, Ok, Err}
use Prim.Native.Nat.{ℕ, zero, suc, ◌*◌, ◌≤◌, ◌<◌}
use native.Mathlib.Omega.{arith}
use mathlib.Core.Path.{◌≡◌, refl, sym, ap, ◌∙◌}
use mathlib.Core.Bool.{Bool, true, false, ◌||◌}
use mathlib.Core.List.{List, [], ◌∷◌, map}
use borrow.Author.Tests.{ltb-false, leb-false, eqb-true, not-false}
use lib.Dec.{ltb, eqb}
use lib.ListN.{length, get_or, take, replicate, length-replicate}
use lib.Seq.{get_or-take}
use Rattle.rules.specs.declared.TaskId.{TaskId}
use Rattle.rules.specs.declared.Fairness.{Fairness}
use Rattle.rules.specs.declared.Fairness.TheVariants.{StrictlyFair}
use Rattle.rules.specs.Sizes.{max_tasks, slot_count, width}
use Rattle.rules.specs.Clock.{Clock, empty}
use Rattle.rules.specs.Request as R
use Rattle.rules.specs.State.{Batch}
use Rattle.rules.specs.Fresh.{Start, first_batch, fresh, refused_fresh, not_below, refuses12}
use Rattle.rules.specs.Steps.{quiet}
use Rattle.rules.specs.Steps.Answer.{refused, done}
use Rattle.rules.specs.Runs.{start}
use Rattle.rules.proofs.Bools.{neither}
use Rattle.splitting.specs.Plain.{Plain, Request, no_task}
use Rattle.splitting.specs.Kept.{Kept, in_slots, times_kept}
use Rattle.splitting.specs.Split.{whole_tasks, whole_slots, whole}
use Rattle.splitting.specs.Parts.{whole_of}
use Rattle.splitting.specs.Asking.{fresh_plain, fresh_times, fresh_clocks, fresh_batches}
use Rattle.splitting.proofs.Whole.{whole_again}
use Rattle.splitting.proofs.Asked.{fresh-parts}
use Rattle.clock.specs.declared.VectorClock.{VectorClock}
use Rattle.words.specs.View.{request_words, task_words}
use Rattle.head.specs.declared.Head.{Head}
use Rattle.head.specs.View.{plain_of, Shaped, Shows}
use Rattle.batches.specs.declared.Batches.{Batches}
use Rattle.batches.specs.View.{Lent, WellFormed, stands_in, Stood}
use Rattle.std.proofs.lemmas.Option.{none-some}
use Rattle.times.specs.View.{clocks_at, clock_in, kept_of}
use Rattle.state.specs.declared.BatchSemaphore.{BatchSemaphore}
use Rattle.state.specs.View.{Words, view_of, ShapedAll}
use Rattle.fresh.specs.declared.Refused.{Refused}
use Rattle.fresh.specs.Starting.{bad_sizes, Cleared, idle, Idle, Heard, Begins, Gives}
use Rattle.fresh.proofs.Clearing.{slots-free, slots-stand, tasks_runnable, tasks-stand, last_empty}

-- who
pub who_starts : (h : Head) (f : Fairness) (b : Bool) (k n : ℕ) (slots tasks slots₀ tasks₀ : List ℕ) → Idle h f b k n → n ≤ max_tasks
    → length slots₀ ≡ slot_count * request_words → length tasks₀ ≡ max_tasks * task_words → Cleared slots slots₀ → Cleared tasks tasks₀
    → Shows h slots tasks (idle f b k n)
unfolding idle
who_starts h f b k n slots tasks slots₀ tasks₀ i few ls lt cs ct =
    record {
      shaped = record {
        tasks = omega (arith, i.tasks);
        waiters = i.waiters.fits;
        slot-words = cs.sized ∙ ls;
        task-words = ct.sized ∙ lt;
        slots-stand = slots-stand slots slots₀ cs;
        tasks-stand = tasks-stand tasks tasks₀ ct h.tasks;
      };
      view = rw (i.fairness, i.closed, i.stock, i.waiters.view, i.reservation, i.tasks, slots-free slots slots₀ cs, tasks_runnable tasks tasks₀ ct n);
    }

-- when: not set up, and set up by a task
unready_formed : (b : Batches) → b.permit_clocks ≡ None → WellFormed b
unready_formed b e q r = absurd (none-some q (sym e ∙ r))

unready_none : (b : Batches) (sizes rows : List ℕ) → b.permit_clocks ≡ None → stands_in b sizes rows ≡ None
unready_none b sizes rows e = rw e

module _ (b : Batches) (last last₀ clocks clocks₀ : List ℕ) (n : ℕ) (cs : List Clock) (cleared : Cleared last last₀) (sized : length last₀ ≡ width) (heard : Heard clocks clocks₀ n cs) (wide : length clocks₀ ≡ max_tasks * width) where
  pub unmade_starts : b.permit_clocks ≡ None → (sizes rows : List ℕ) → Lent sizes rows → Begins b sizes rows last clocks n cs None
  unmade_starts e sizes rows l =
      record {
        formed = unready_formed b e;
        ring = l;
        last = cleared.sized ∙ sized;
        clocks = heard.sized ∙ wide;
        heard = heard.first;
        stands = unready_none b sizes rows e;
        latest = last_empty last last₀ cleared sized;
      }

  pub made_starts : (k : ℕ) (t : TaskId) (c : VectorClock) (sizes rows sizes₀ rows₀ : List ℕ) → Lent sizes₀ rows₀ → length sizes ≡ length sizes₀ → length rows ≡ length rows₀ → t.0 < n → c.0 ≡ clock_in max_tasks clocks t.0
      → Stood b sizes rows (first_batch k c.0) → Begins b sizes rows last clocks n cs (fresh_batches k cs (Some t))
  unfolding fresh_batches
  made_starts k t c sizes rows sizes₀ rows₀ r ls lr l e s =
      let g : get_or cs t.0 (empty width) ≡ c.0 = rw (← heard.first) (get_or-take n (clocks_at max_tasks clocks) t.0 (empty width) l ∙ sym e) in
      record {
        formed = s.formed;
        ring = record { places = ls ∙ r.places; entries = lr ∙ r.entries };
        last = cleared.sized ∙ sized;
        clocks = heard.sized ∙ wide;
        heard = heard.first;
        stands = s.view ∙ rw g;
        latest = last_empty last last₀ cleared sized;
      }

-- ---- both
-- slots of which none is in use
abbrev frees : ℕ → List (Option Request)
frees n = replicate n None

free-slots : (n : ℕ) (cs : List Clock) → in_slots (map is_some (frees n)) cs ≡ replicate n None
unfolding in_slots
free-slots zero cs = refl
free-slots (suc n) [] = ap (λ (l : List (Option Clock)). None ∷ l) (free-slots n [])
free-slots (suc n) (c ∷ cs) = ap (λ (l : List (Option Clock)). None ∷ l) (free-slots n cs)

whole-free : (n : ℕ) → whole_slots (replicate n None) (replicate n None) ≡ replicate n None
unfolding whole_slots
whole-free zero = refl
whole-free (suc n) = ap (λ (l : List (Option R.Request)). None ∷ l) (whole-free n)

-- the times of a state in which nobody waits
idle-times : (f : Fairness) (b : Bool) (k n : ℕ) (v : Kept) (cs : List Clock) (o : Option (List Batch)) → take n v.clocks ≡ cs → v.batches ≡ o → v.last ≡ empty width
    → times_kept (idle f b k n) v ≡ record { clocks = cs; requests = replicate slot_count None; batches = o; last = empty width }
unfolding idle
idle-times f b k n v cs o ec eb el = rw (length-replicate n no_task, ec, eb, el, free-slots slot_count v.requests)

-- a fresh state is the whole of its parts
whole_fresh : (a : Start) → whole (fresh_plain a) (fresh_times a) ≡ fresh a
whole_fresh a = ap whole_of (sym (fresh-parts a)) ∙ whole_again (fresh a)

-- counts, marks and lengths of all that was begun
shaped : (h : Head) (b : Batches) (w : Words) (n : ℕ) (cs : List Clock) (o : Option (List Batch)) → Shaped h w.slots w.tasks
    → Begins b w.sizes w.rows w.last w.clocks n cs o → length w.makers ≡ slot_count * width
    → ShapedAll (record { head = h; batches = b }) w
shaped h b w n cs o sh g m = record { head = sh; formed = g.formed; ring = g.ring; latest = g.last; makers = m; clocks = g.clocks }

-- what is seen of who and when together
seen-whole : (h : Head) (b : Batches) (w : Words) (f : Fairness) (c : Bool) (k n : ℕ) (cs : List Clock) (o : Option (List Batch))
    → plain_of h w.slots w.tasks ≡ idle f c k n
    → Begins b w.sizes w.rows w.last w.clocks n cs o
    → view_of (record { head = h; batches = b }) w ≡ whole (idle f c k n) (record { clocks = cs; requests = replicate slot_count None; batches = o; last = empty width })
seen-whole h b w f c k n cs o e g =
    let v : Kept = kept_of b w.sizes w.rows w.last w.makers w.clocks in
    ap (λ (p : Plain). whole p (times_kept p v)) e ∙ ap (whole (idle f c k n)) (idle-times f c k n v cs o g.heard g.stands g.latest)

-- the state that 12 names
whole-refused : whole (idle StrictlyFair true 0 0) (record { clocks = []; requests = replicate slot_count None; batches = None; last = empty width }) ≡ refused_fresh
unfolding whole idle refused_fresh whole_tasks
whole-refused = rw (whole-free slot_count)

module _ (h : Head) (b : Batches) (w : Words) (sized : length w.makers ≡ slot_count * width) where
  pub gives-refused : (last₀ : List ℕ) → Shows h w.slots w.tasks (idle StrictlyFair true 0 0) → b.permit_clocks ≡ None → Cleared w.last last₀ → length last₀ ≡ width
      → Lent w.sizes w.rows → length w.clocks ≡ max_tasks * width
      → Gives (Err (record { state = record { head = h; batches = b } })) w (quiet (refused 12) refused_fresh)
  gives-refused last₀ s e c l r k =
      let none-heard : Heard w.clocks w.clocks 0 [] = record { sized = refl; first = refl } in
      let g = unmade_starts b w.last last₀ w.clocks w.clocks 0 [] c l none-heard k e w.sizes w.rows r in
      record {
        answer = refl;
        view = seen-whole h b w StrictlyFair true 0 0 [] None s.view g ∙ whole-refused;
        shaped = shaped h b w 0 [] None s.shaped g sized;
      }

  pub gives-fresh : (a : Start) → Shows h w.slots w.tasks (idle a.fairness false a.stock a.tasks)
      → Begins b w.sizes w.rows w.last w.clocks a.tasks (fresh_clocks a.tasks a.tasks a.clocks) (fresh_batches a.stock (fresh_clocks a.tasks a.tasks a.clocks) a.maker)
      → Gives (Ok (record { head = h; batches = b })) w (quiet done (fresh a))
  unfolding fresh_plain fresh_times idle
  gives-fresh a s g =
      record {
        answer = refl;
        view = seen-whole h b w a.fairness false a.stock a.tasks _ _ s.view g ∙ whole_fresh a;
        shaped = shaped h b w _ _ _ s.shaped g sized;
      }

-- sizes that 12 does not refuse
sized : (n e : ℕ) (bad : Bool) → bad ≡ bad_sizes n e → bad ≡ false → (n ≤ max_tasks) × (e ≡ n * n)
sized n e bad s h =
    let c = neither _ _ (sym s ∙ h) in
    (ltb-false max_tasks n (neither (eqb n 0) (ltb max_tasks n) c.0).1, eqb-true e (n * n) (not-false _ c.1))

-- what 12 says: of the sizes, and of the maker
module _ (a : Start) (bad : Bool) (e : bad ≡ (bad_sizes a.tasks (length a.clocks) || not_below a.tasks a.maker)) where
  told : refuses12 a ≡ bad
  unfolding refuses12
  told = sym e

  pub refused_so : (r : Result BatchSemaphore Refused) (w : Words) → bad ≡ true → Gives r w (quiet (refused 12) refused_fresh) → Gives r w (start a)
  unfolding start
  refused_so r w h g = rw (told, h) g

  pub accepted_so : (r : Result BatchSemaphore Refused) (w : Words) → bad ≡ false → Gives r w (quiet done (fresh a)) → Gives r w (start a)
  unfolding start
  accepted_so r w h g = rw (told, h) g

  -- what a fresh state is made from
  pub few : bad ≡ false → a.tasks ≤ max_tasks
  few h = (sized a.tasks (length a.clocks) _ refl (neither _ (not_below a.tasks a.maker) (sym e ∙ h)).0).0

  pub square : bad ≡ false → length a.clocks ≡ a.tasks * a.tasks
  square h = (sized a.tasks (length a.clocks) _ refl (neither _ (not_below a.tasks a.maker) (sym e ∙ h)).0).1

  pub below : (t : TaskId) → a.maker ≡ Some t → bad ≡ false → t.0 < a.tasks
  below t m h = leb-false a.tasks t.0 (rw m at (neither (bad_sizes a.tasks (length a.clocks)) (not_below a.tasks a.maker) (sym e ∙ h)).1)
