-- A queue grant put together from its parts.
use Prim.Native.Nat.{ℕ, ◌≤◌, ◌<◌}
use mathlib.Core.Path.{◌≡◌}
use mathlib.Core.List.{List}
use borrow.Author.Tests.{lt-ltb, le-ltb}
use lib.ListN.{set}
use Rattle.rules.specs.Sizes.{width, max_tasks, slot_count}
use Rattle.rules.specs.Clock.{join, empty}
use Rattle.rules.specs.Taking.{eat, standing_of}
use Rattle.splitting.specs.Kept.{taking, take_queued}
use Rattle.clock.specs.declared.VectorClock.{VectorClock}
use Rattle.batches.specs.declared.Batches.{Batches}
use Rattle.batches.specs.declared.Eaten.{Eaten}
use Rattle.tables.specs.Table.{row}
use Rattle.batches.specs.View.{stands_in, WellFormed, Took}
use Rattle.words.specs.declared.GrantWords.{GrantWords}
use Rattle.words.specs.View.{taker_of, grant_of}
use Rattle.times.specs.View.{clocks_at, clock_in, kept_of, Shows}

module _ (b : Batches) (sizes rows last makers clocks : List ℕ) (k : ℕ) (g : GrantWords) where
  -- a try is no grant of the queue
  pub passed : 256 ≤ g.taker → WellFormed b → Shows b sizes rows last makers clocks (take_queued k (grant_of g).taker (grant_of g).count (grant_of g).task (kept_of b sizes rows last makers clocks))
  unfolding taker_of
  passed h f = record { formed = f; view = rw (le-ltb g.taker 256 h) }

  pub granted : (r : Eaten) (sizes' rows' last' clocks' : List ℕ) (own : VectorClock)
      → g.taker < 256
      → own.0 ≡ clock_in slot_count makers g.taker
      → Took r sizes' rows' last' (eat (standing_of k (stands_in b sizes rows)) g.count (empty width)) (join (row width last 0) own.0)
      → clocks_at max_tasks clocks' ≡ set (clocks_at max_tasks clocks) g.task (join (clock_in max_tasks clocks g.task) r.clock.0)
      → Shows r.batches sizes' rows' last' makers clocks' (take_queued k (grant_of g).taker (grant_of g).count (grant_of g).task (kept_of b sizes rows last makers clocks))
  unfolding taker_of taking
  granted r sizes' rows' last' clocks' own h o t j =
      record {
        formed = t.fed.stood.formed;
        view = rw (lt-ltb g.taker 256 h, j, t.fed.clock, t.latest, o, t.fed.stood.view);
      }
