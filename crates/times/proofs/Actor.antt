-- What the actor does, put together from its parts.
use Prim.Native.Nat.{ℕ, zero, suc, ◌≤◌, ◌<◌}
use native.Mathlib.Omega.{arith}
use mathlib.Core.Path.{◌≡◌}
use mathlib.Core.List.{List, [], ◌∷◌, ◌++◌}
use borrow.Author.Tests.{eq-eqb, ne_eqb}
use lib.ListN.{get_or, set}
use lib.Seq.{get_or-set_same}
use Rattle.rules.specs.declared.TaskId.{TaskId}
use Rattle.rules.specs.Sizes.{width, max_tasks}
use Rattle.rules.specs.Clock.{join, tick, empty}
use Rattle.rules.specs.Taking.{eat, standing_of}
use Rattle.splitting.specs.Kept.{Kept, taking, take_each, fail_try, release}
use Rattle.clock.specs.declared.VectorClock.{VectorClock}
use Rattle.batches.specs.declared.Batches.{Batches}
use Rattle.batches.specs.declared.Eaten.{Eaten}
use Rattle.tables.specs.Table.{row}
use Rattle.batches.specs.View.{stands_in, WellFormed, Stood, Took}
use Rattle.words.specs.declared.GrantWords.{GrantWords}
use Rattle.tables.specs.Table.{table}
use Rattle.words.specs.View.{grant_words_in, grants_of}
use Rattle.times.specs.View.{clocks_at, clock_in, kept_of, Shows, Ticked, taken_as}
use Rattle.times.proofs.Clocks.{clocks-length}

module _ (b : Batches) (sizes rows last makers clocks : List ℕ) (k : ℕ) (t : TaskId) where
  abbrev before : Kept
  before = kept_of b sizes rows last makers clocks

  pub taken : (n : ℕ) (r : Eaten) (sizes' rows' last' clocks' : List ℕ) (mine : VectorClock)
      → mine.0 ≡ clock_in max_tasks clocks t.0
      → Took r sizes' rows' last' (eat (standing_of k (stands_in b sizes rows)) n (empty width)) (join (row width last 0) mine.0)
      → clocks_at max_tasks clocks' ≡ set (clocks_at max_tasks clocks) t.0 (join (tick t.0 (clock_in max_tasks clocks t.0)) r.clock.0)
      → Shows r.batches sizes' rows' last' makers clocks' (taken_as k t n (kept_of b sizes rows last makers clocks))
  unfolding taking
  taken n r sizes' rows' last' clocks' mine o q j =
      record {
        formed = q.fed.stood.formed;
        view = rw (j, q.fed.clock, q.latest, o, q.fed.stood.view);
      }

  -- no grant, and one
  pub none_taken : (n : ℕ) (grants : List ℕ) → n ≡ 0 → WellFormed b → Shows b sizes rows last makers clocks (take_each k t (grants_of n grants) (kept_of b sizes rows last makers clocks))
  unfolding take_each grants_of table
  none_taken n grants e f = record { formed = f; view = rw e }

  pub one_taken : (n : ℕ) (grants : List ℕ) (g : GrantWords) (r : Batches) (sizes' rows' last' clocks' : List ℕ) → (n ≡ 0 → ⊥) → n ≤ 1 → g ≡ grant_words_in grants 0
      → Shows r sizes' rows' last' makers clocks' (taken_as k t g.count (kept_of b sizes rows last makers clocks))
      → Shows r sizes' rows' last' makers clocks' (take_each k t (grants_of n grants) (kept_of b sizes rows last makers clocks))
  unfolding take_each grants_of table
  one_taken n grants g r sizes' rows' last' clocks' any few e s =
      let one : n ≡ suc zero = omega arith in
      rw one (rw e at s)

  -- a try that takes nothing
  pub failed : (clocks' : List ℕ) (latest : VectorClock) → latest.0 ≡ row width last 0
      → clocks_at max_tasks clocks' ≡ set (clocks_at max_tasks clocks) t.0 (join (tick t.0 (clock_in max_tasks clocks t.0)) latest.0)
      → kept_of b sizes rows last makers clocks' ≡ fail_try t (kept_of b sizes rows last makers clocks)
  failed clocks' latest l e = rw (e, l)

  -- nothing given back, and something
  pub given_none : (n : ℕ) → n ≡ 0 → WellFormed b → Shows b sizes rows last makers clocks (release k t n (kept_of b sizes rows last makers clocks))
  unfolding release
  given_none n e f = record { formed = f; view = rw (eq-eqb n 0 e) }

  pub given_some : (n : ℕ) (mine : VectorClock) (r : Batches) (sizes' rows' clocks' : List ℕ) → (n ≡ 0 → ⊥) → t.0 < max_tasks → Ticked mine clocks' t clocks
      → Stood r sizes' rows' (standing_of k (stands_in b sizes rows) ++ record { size = n; clock = mine.0 } ∷ [])
      → Shows r sizes' rows' last makers clocks' (release k t n (kept_of b sizes rows last makers clocks))
  unfolding release
  given_some n mine r sizes' rows' clocks' e l u s =
      record {
        formed = s.formed;
        view =
            rw (
              ne_eqb n 0 e,
              get_or-set_same (clocks_at max_tasks clocks) t.0 (tick t.0 (clock_in max_tasks clocks t.0)) (empty width) (omega (arith, clocks-length width max_tasks clocks)),
              u.clocks,
              s.view,
              u.clock,
            );
      }
