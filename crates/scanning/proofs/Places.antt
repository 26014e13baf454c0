-- A slot at its place in a queue that names none twice: the queue without it.
use Rattle.std.specs.Prelude.{remove}
use Prim.Native.Nat.{ℕ, suc}
use native.Mathlib.Omega.{arith}
use mathlib.Core.Path.{◌≡◌, sym, ap, subst, ◌∙◌}
use mathlib.Core.Bool.{false}
use mathlib.Core.List.{List, ◌∷◌, ◌++◌}
use lib.ListN.{length, take, drop, take-append-drop, length-append, length-drop}
use lib.Seq.{drop-cons, drop_at, length-take-le}
use Rattle.rules.specs.declared.Slot.{Slot}
use Rattle.rules.specs.Broken.{twice}
use Rattle.rules.specs.Scan.{without}
use Rattle.rules.proofs.Queues.{once_middle, without_middle}
use Rattle.queue.specs.View.{slot0}
use Rattle.scanning.specs.View.{StandsAt}

module _ (x : Slot) (i : ℕ) (q : List Slot) (p : StandsAt x i q) where
  pub split : drop i q ≡ x ∷ drop (suc i) q
  split = drop-cons q i slot0 p.within ∙ ap (λ (y : Slot). y ∷ drop (suc i) q) (sym p.there)

  whole : q ≡ take i q ++ x ∷ drop (suc i) q
  whole = sym (take-append-drop i q) ∙ ap (λ (l : List Slot). take i q ++ l) split

  gone : without x q ≡ take i q ++ drop (suc i) q
  gone =
      let o : twice (take i q ++ x ∷ drop (suc i) q) ≡ false = subst (λ (l : List Slot). twice l ≡ false) whole p.once in
      ap (λ (l : List Slot). without x l) whole ∙ without_middle (take i q) x (drop (suc i) q) (once_middle (take i q) x (drop (suc i) q) o).0

  size : length (take i q) ≡ i
  size = length-take-le i q (omega (arith, p.within))

  pub removed_at : remove q i ≡ without x q
  removed_at = sym gone

  -- those behind it stand at its place
  pub moved : drop i (without x q) ≡ drop (suc i) q
  moved = ap (λ (l : List Slot). drop i l) gone ∙ drop_at (take i q) (drop (suc i) q) i size

  pub fewer : length q ≡ suc (length (without x q))
  fewer =
      omega (
        arith,
        p.within,
        ap (λ (l : List Slot). length l) gone,
        length-append (take i q) (drop (suc i) q),
        length-drop (suc i) q,
        size,
      )
