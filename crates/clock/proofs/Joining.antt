-- A join entry by entry, at any width, and the loop that makes one.
use Prim.Native.Nat.{ℕ, zero, suc, ◌+◌, ◌≤◌, ◌<◌, max}
use native.Mathlib.Nat.{not-suc-le-zero, le_of_suc-le-suc, max-eq_left}
use native.Mathlib.Omega.{arith}
use mathlib.Core.Path.{◌≡◌, refl, sym, ◌∙◌}
use mathlib.Core.List.{[], ◌∷◌}
use lib.ListN.{length, get_or, set}
use Rattle.rules.specs.Clock.{Clock, join}
use Rattle.rules.proofs.Clocks.{length-join}
use Rattle.tables.proofs.Filling.{filled, fills_more, fills_whole}

pub get_or-join : (c d : Clock) (i : ℕ) → i < length c → get_or (join c d) i 0 ≡ max (get_or c i 0) (get_or d i 0)
unfolding join
get_or-join [] d i h = absurd (not-suc-le-zero h)
get_or-join (x ∷ c) [] i h = sym (max-eq_left (omega arith))
get_or-join (x ∷ c) (y ∷ d) zero h = refl
get_or-join (x ∷ c) (y ∷ d) (suc i) h = get_or-join c d i (le_of_suc-le-suc h)

-- a turn, and the end
module _ (c d out : Clock) (i : ℕ) (e : out ≡ filled c (join c d) i) where
  pub joins_more : (x : ℕ) → i < length c → x ≡ max (get_or c i 0) (get_or d i 0) → set out i x ≡ filled c (join c d) (i + 1)
  joins_more x h m = rw (e, m, ← get_or-join c d i h) (fills_more c (join c d) i 0 h (rw length-join h))

  pub joins_whole : (w : ℕ) → length c ≡ w → w ≤ i → out ≡ join c d
  joins_whole w l h = e ∙ fills_whole c (join c d) i (omega arith) (rw length-join (omega arith))
