-- Rows of starting clocks, and the clocks made row by row.
use mir.Syntax.{w64}
use mir.Val.{Fits}
use Prim.Native.Nat.{ℕ, suc, ◌+◌, ◌-◌, ◌*◌, ◌≤◌, ◌<◌}
use native.Mathlib.Nat.{mul-le-mul, mul-le-mul_right, suc-mul}
use native.Mathlib.Numerals.{add-one}
use native.Mathlib.Omega.{arith}
use mathlib.Core.Path.{◌≡◌, sym, ◌∙◌}
use mathlib.Core.List.{List, [], ◌∷◌, ◌++◌, append_assoc, append-nil}
use Rattle.std.proofs.lemmas.List.{drop-replicate}
use lib.ListN.{length, set, take, drop, replicate}
use lib.Seq.{take-suc-set, drop-drop}
use Rattle.rules.specs.Sizes.{width, max_tasks}
use Rattle.rules.specs.Clock.{empty}
use Rattle.splitting.specs.Asking.{fresh_clocks}
use Rattle.clock.specs.declared.VectorClock.{VectorClock}
use Rattle.times.specs.View.{clocks_at}
use Rattle.times.proofs.Clocks.{clocks-length}
use Rattle.fresh.specs.Starting.{Heard}

-- a row, and nothing behind it
pub row_padded : (l part : List ℕ) (base n : ℕ) → part ≡ take (base + n - base) (drop base l) → part ++ drop n (replicate width 0) ≡ take n (drop base l) ++ empty (width - n)
unfolding empty
row_padded l part base n e =
    let z : base + n - base ≡ n = omega arith in
    rw (e, z, drop-replicate)

-- a row lies within the rows
pub row_within : (n i : ℕ) → i < n → i * n + n ≤ n * n
row_within n i h = let e : suc i * n ≡ i * n + n = suc-mul i n in rw e at (mul-le-mul_right n h)

pub row-there : (n i : ℕ) (rows : List ℕ) → i < n → length rows ≡ n * n → i * n + n ≤ length rows
row-there n i rows h l = omega (arith, row_within n i h)

pub row_fits : (n i : ℕ) → n ≤ max_tasks → i < n → Fits w64 (i * n)
row_fits n i few h = record { fits = omega (arith, mul-le-mul {n₁ = i} {m₁ = n} {n₂ = max_tasks} {m₂ = max_tasks} (omega arith) few) }

-- the loop that makes the clocks: those made so far, and the rest of the rows
pub record Making (starts clocks : List ℕ) (n i : ℕ) : Type 0 where
  pub sized : length clocks ≡ max_tasks * width
  pub passed : i ≤ n
  pub made : take i (clocks_at max_tasks clocks) ++ fresh_clocks n (n - i) (drop (i * n) starts) ≡ fresh_clocks n n starts

module _ (starts : List ℕ) (n : ℕ) where
  pub makes_none : (clocks : List ℕ) → length clocks ≡ max_tasks * width → Making starts clocks n 0
  makes_none clocks l =
      let z : n - 0 ≡ n = omega arith in
      let m : 0 * n ≡ 0 = omega arith in
      record { sized = l; passed = omega arith; made = rw (z, m) }

  module _ (clocks : List ℕ) (i : ℕ) (m : Making starts clocks n i) where
    pub makes_more : (out : List ℕ) (c : VectorClock) → i < n → n ≤ max_tasks → length out ≡ length clocks
        → c.0 ≡ take n (drop (i * n) starts) ++ empty (width - n)
        → clocks_at max_tasks out ≡ set (clocks_at max_tasks clocks) i c.0
        → Making starts out n (i + 1)
    unfolding fresh_clocks
    makes_more out c h few l e s =
        let k : n - i ≡ suc (n - (i + 1)) = omega arith in
        let d : drop n (drop (i * n) starts) ≡ drop ((i + 1) * n) starts = drop-drop n (i * n) starts ∙ rw (add-one, suc-mul) in
        let p : i < length (clocks_at max_tasks clocks) = omega (arith, clocks-length width max_tasks clocks) in
        let t : take (i + 1) (clocks_at max_tasks out) ≡ take i (clocks_at max_tasks clocks) ++ (c.0 ∷ []) = rw (s, add-one) (take-suc-set (clocks_at max_tasks clocks) i c.0 p) in
        record {
          sized = l ∙ m.sized;
          passed = omega arith;
          made = rw (t, e, append_assoc) (rw (k, d) at m.made);
        }

    pub makes_all : (clocks₀ : List ℕ) → length clocks₀ ≡ max_tasks * width → n ≤ i → Heard clocks clocks₀ n (fresh_clocks n n starts)
    unfolding fresh_clocks
    makes_all clocks₀ l h =
        let e : i ≡ n = omega (arith, m.passed) in
        let z : n - n ≡ 0 = omega arith in
        record { sized = m.sized ∙ sym l; first = sym (append-nil _) ∙ (rw (e, z) at m.made) }
