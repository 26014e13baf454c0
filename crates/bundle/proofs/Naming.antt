-- Name after name.
use Prim.Native.Nat.{ℕ, suc, ◌+◌, ◌-◌, ◌*◌, ◌≤◌, ◌<◌}
use native.Mathlib.Nat.{add-sub_cancel_left}
use native.Mathlib.Omega.{arith}
use mathlib.Core.Path.{◌≡◌, sym, ap, ◌∙◌}
use mathlib.Core.Bool.{Bool, true, false, not, ◌&&◌}
use mathlib.Core.List.{List}
use borrow.Author.Tests.{not-true, not-false}
use lib.ListN.{take, drop}
use lib.Seq.{drop-drop}
use Rattle.bundle_rules.specs.Bundled.{well_made, well_named}
use Rattle.bundle.specs.Contents.{stretches}

module _ (ms : List ℕ) (n i : ℕ) (so_far : well_named (stretches 16 n ms) ≡ well_named (stretches 16 (n - i) (drop (16 * i) ms))) where
  next : i < n → well_named (stretches 16 n ms) ≡ well_made (take (16 * i + 16 - 16 * i) (drop (16 * i) ms)) && well_named (stretches 16 (n - (i + 1)) (drop (16 * (i + 1)) ms))
  unfolding stretches well_named
  next h =
      let k : n - i ≡ suc (n - (i + 1)) = omega arith in
      let d : drop 16 (drop (16 * i) ms) ≡ drop (16 * (i + 1)) ms =
      drop-drop 16 (16 * i) ms ∙ ap (λ (m : ℕ). drop m ms) {x = 16 * i + 16} {y = 16 * (i + 1)} (omega arith) in
      so_far ∙ rw (k, d, add-sub_cancel_left (16 * i) 16)

  pub bad-name : (r : Bool) → i < n → r ≡ well_made (take (16 * i + 16 - 16 * i) (drop (16 * i) ms)) → not r ≡ true → false ≡ well_named (stretches 16 n ms)
  bad-name r h q t = sym (next h ∙ rw (← q, not-true r t))

  pub good_name : (r : Bool) → i < n → r ≡ well_made (take (16 * i + 16 - 16 * i) (drop (16 * i) ms)) → not r ≡ false → well_named (stretches 16 n ms) ≡ well_named (stretches 16 (n - (i + 1)) (drop (16 * (i + 1)) ms))
  good_name r h q t = next h ∙ rw (← q, not-false r t)

  pub good_names : n ≤ i → true ≡ well_named (stretches 16 n ms)
  unfolding stretches well_named
  good_names h =
      let k : n - i ≡ 0 = omega arith in
      sym (so_far ∙ rw k)
