-- What stores do to the batches that a ring holds: one more at the back, the front one smaller, the front one gone.
use Prim.Native.Nat.{ℕ, suc, ◌+◌, ◌*◌, ◌-◌, ◌%◌, ◌≤◌, ◌<◌}
use native.Mathlib.Numerals.{add-one}
use native.Mathlib.Omega.{arith}
use mathlib.Core.Path.{◌≡◌}
use mathlib.Core.List.{List, [], ◌∷◌, ◌++◌}
use lib.ListN.{length, set}
use lib.Seq.{paste, get_or-set_same, get_or-set_other}
use Rattle.rules.specs.Sizes.{batch_count}
use Rattle.rules.specs.State.{Batch}
use Rattle.tables.specs.Table.{row}
use Rattle.batches.specs.View.{ring, batch_at}
use Rattle.batches.proofs.Rings.{ring_snoc, ring_agree, ring_front}
use Rattle.tables.proofs.Rows.{row_same, row_other}

module _ (w : ℕ) (sizes rows : List ℕ) (sized : length sizes ≡ batch_count) where
  abbrev held : ℕ → ℕ → List Batch
  held h n = ring (batch_at w sizes rows) batch_count h n

  -- a batch of m with the clock c, stored in the table `after`, is one more at the back
  pub pushed : (after : List ℕ) (h n m : ℕ) (c : List ℕ) → length rows ≡ batch_count * w → length c ≡ w → n < batch_count → after ≡ paste rows ((h + n) % batch_count * w) c w → ring (batch_at w (set sizes ((h + n) % batch_count) m) after) batch_count h (n + 1) ≡ held h n ++ record { size = m; clock = c } ∷ []
  pushed after h n m c lc l hn e =
      let p : ℕ = (h + n) % batch_count in
      let new : ℕ → Batch = batch_at w (set sizes p m) (paste rows (p * w) c w) in
      let other : (q : ℕ) → (q ≡ p → ⊥) → new q ≡ batch_at w sizes rows q =
      λ q d. rw (get_or-set_other sizes p q m 0 d, row_other w batch_count rows p c (omega arith) lc l q d) in
      rw (
        e,
        add-one,
        ring_snoc batch_count new n h,
        get_or-set_same sizes p m 0 (omega arith),
        row_same w batch_count rows p c (omega arith) lc l,
        ring_agree batch_count new (batch_at w sizes rows) n h (λ k l. other ((h + k) % batch_count) (omega arith)),
      )

  module _ (h n : ℕ) (inside : h < batch_count) (room : n ≤ batch_count) (stands : 0 < n) where
    pub front : held h n ≡ batch_at w sizes rows h ∷ held (suc h) (n - 1)
    front = ring_front batch_count (batch_at w sizes rows) n h stands inside

    -- the front batch made smaller
    pub shrunk : (m : ℕ) → ring (batch_at w (set sizes h m) rows) batch_count h n ≡ record { size = m; clock = row w rows h } ∷ held (suc h) (n - 1)
    shrunk m =
        rw (
          ring_front batch_count (batch_at w (set sizes h m) rows) n h stands inside,
          get_or-set_same sizes h m 0 (omega arith),
          ring_agree batch_count (batch_at w (set sizes h m) rows) (batch_at w sizes rows) (n - 1) (suc h)
              (λ k l. rw (get_or-set_other sizes h ((suc h + k) % batch_count) m 0 (omega arith))),
        )
