-- The loop over a step's grants: what is left to do from here makes what was to be made.
use Prim.Native.Nat.{ℕ, suc, ◌+◌, ◌*◌, ◌-◌, ◌≤◌, ◌<◌}
use native.Mathlib.Numerals.{add-one}
use native.Mathlib.Omega.{arith}
use mathlib.Core.Path.{◌≡◌}
use mathlib.Core.List.{List, [], ◌∷◌}
use lib.ListN.{length}
use Rattle.rules.specs.declared.Grant.{Grant}
use Rattle.rules.specs.Sizes.{width, max_tasks}
use Rattle.splitting.specs.Kept.{Kept, take_queued, grant_each}
use Rattle.batches.specs.declared.Batches.{Batches}
use Rattle.batches.specs.View.{Lent, WellFormed}
use Rattle.words.specs.declared.GrantWords.{GrantWords}
use Rattle.tables.specs.Table.{table}
use Rattle.words.specs.View.{grant_words_in, grant_of, grants_of}
use Rattle.times.specs.View.{kept_of, Shows}

-- the arrays' lengths
pub record Sized (sizes rows last clocks : List ℕ) : Type 0 where
  pub ring : Lent sizes rows
  pub latest : length last ≡ width
  pub entries : length clocks ≡ max_tasks * width

abbrev grant_in : List ℕ → ℕ → Grant
grant_in grants i = grant_of (grant_words_in grants i)

pub record Turn (out : Batches) (sizes rows last makers clocks : List ℕ) (k : ℕ) (grants : List ℕ) (n i : ℕ) (m : Kept) : Type 0 where
  pub formed : WellFormed out
  pub sized : Sized sizes rows last clocks
  pub within : i ≤ n
  pub rest : grant_each k (table (grant_in grants) i (n - i)) (kept_of out sizes rows last makers clocks) ≡ m

table_from : {A : Type 0} (f : ℕ → A) (n i : ℕ) → i < n → table f i (n - i) ≡ f i ∷ table f (i + 1) (n - (i + 1))
unfolding table
table_from f n i l =
    let e : n - i ≡ suc (n - (i + 1)) = omega arith in
    rw (e, add-one i)

table_none : {A : Type 0} (f : ℕ → A) (n i : ℕ) → n ≤ i → table f i (n - i) ≡ []
unfolding table
table_none f n i l = let e : n - i ≡ 0 = omega arith in rw e

module _ (k : ℕ) (grants makers : List ℕ) (n : ℕ) where
  pub turn-first : (b : Batches) (sizes rows last clocks : List ℕ) → WellFormed b → Sized sizes rows last clocks
      → Turn b sizes rows last makers clocks k grants n 0 (grant_each k (grants_of n grants) (kept_of b sizes rows last makers clocks))
  unfolding grants_of
  turn-first b sizes rows last clocks f s =
      record { formed = f; sized = s; within = omega arith; rest = let e : n - 0 ≡ n = omega arith in rw e }

  module _ (i : ℕ) (out : Batches) (sizes rows last clocks : List ℕ) (m : Kept) (t : Turn out sizes rows last makers clocks k grants n i m) where
    pub turn-next : (g : GrantWords) (next : Batches) (sizes' rows' last' clocks' : List ℕ) → i < n → g ≡ grant_words_in grants i
        → Shows next sizes' rows' last' makers clocks' (take_queued k (grant_of g).taker (grant_of g).count (grant_of g).task (kept_of out sizes rows last makers clocks))
        → Sized sizes' rows' last' clocks'
        → Turn next sizes' rows' last' makers clocks' k grants n (i + 1) m
    unfolding grant_each
    turn-next g next sizes' rows' last' clocks' l e s z =
        record {
          formed = s.formed;
          sized = z;
          within = omega arith;
          rest = rw (s.view, e) ((rw (table_from (grant_in grants) n i l) at t.rest));
        }

    pub turn_last : n ≤ i → Shows out sizes rows last makers clocks m
    unfolding grant_each
    turn_last l = record { formed = t.formed; view = rw (table_none (grant_in grants) n i l) at t.rest }
