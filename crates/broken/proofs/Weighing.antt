-- The slots weigh together as much as the queue is long exactly where none of them is wrong, and the queue names none that is free and none twice.
use Rattle.std.specs.Prelude.{Option, None, is_some}
use Prim.Native.Nat.{ℕ, zero, suc, ◌+◌, ◌*◌, ◌≤◌, ◌<◌}
use native.Mathlib.Nat.{add-zero}
use native.Mathlib.Decide.{dec_lt}
use native.Mathlib.Omega.{arith}
use mathlib.Core.Path.{◌≡◌, refl, sym, ap, ◌∙◌}
use mathlib.Core.Bool.{Bool, true, false, cond, not, ◌&&◌, ◌||◌}
use mathlib.Core.List.{List}
use borrow.Author.Tests.{eqb-true, eqb-false, ne_eqb, lt-leb}
use lib.Dec.{eqb}
use lib.ListN.{length, get_or}
use Rattle.rules.specs.declared.Slot.{Slot}
use Rattle.rules.specs.Sizes.{slot_count}
use Rattle.rules.specs.Broken.{any_of, member, slots_from, every_slot}
use Rattle.rules.proofs.Bools.{by_test, clash, neither}
use Rattle.splitting.specs.Plain.{Request as RequestRule}
use Rattle.tables.specs.Table.{row}
use Rattle.words.specs.View.{request_words, decoded, slots_of, row_stands}
use Rattle.words.proofs.Slots.{slot-there, slot_past}
use Rattle.broken.specs.Weights.{words_at, request_wrong, heavy, weights, sum_from, Marks, is_wrong, broken_slots}
use Rattle.broken.proofs.Rows.{row_word, row_judged}
use Rattle.broken.proofs.Weights.{stray_weighs, free_weighs, used_weighs}
use Rattle.broken.proofs.Counting.{used_in, counted_all}

module _ (n : ℕ) (fair : Bool) (w : List ℕ) (q : List Slot) (seen : List Bool) (m : Marks seen q) where
  abbrev used : ℕ → Bool
  used k = is_some (get_or (slots_of w) k None)

  abbrev wrong : ℕ → Bool
  wrong k = is_wrong n fair w q (record { 0 = k })

  abbrev weight : ℕ → ℕ
  weight = weights n fair seen w

  -- one slot: too heavy where it is wrong, and else what it counts
  module _ (k : ℕ) (l : k < slot_count) where
    abbrev r : List ℕ
    r = row request_words w k

    abbrev named : Bool
    named = member (record { 0 = k }) q

    first : get_or r 0 0 ≡ get_or w (k * request_words) 0
    first = row_word w k 0 (omega arith) ∙ ap (λ (j : ℕ). get_or w j 0) (add-zero (k * request_words))

    tests : request_wrong n fair (get_or seen k false) (words_at w (k * request_words)) ≡ request_wrong n fair named (words_at r 0)
    tests =
        rw (
          m k l,
          row_word w k 1 (omega arith),
          row_word w k 2 (omega arith),
          row_word w k 3 (omega arith),
          row_word w k 4 (omega arith),
          row_word w k 5 (omega arith),
          row_word w k 6 (omega arith),
          row_word w k 7 (omega arith),
          row_word w k 8 (omega arith),
          row_word w k 9 (omega arith),
        )

    module _ (u : get_or w (k * request_words) 0 ≡ 1) where
      one_wrong : request_wrong n fair (get_or seen k false) (words_at w (k * request_words)) ≡ wrong k
      one_wrong = tests ∙ row_judged n fair named r (first ∙ u) ∙ rw (slot-there w k l)

      one_used : used k ≡ true
      unfolding decoded
      one_used = rw (slot-there w k l, first, u)

      one_weighs : weight k ≡ cond (wrong k) heavy (cond named 1 0)
      one_weighs =
          used_weighs n fair (get_or seen k false) w (k * request_words) u (wrong k) (sym one_wrong)
          ∙ ap (λ (b : Bool). cond (wrong k) heavy (cond b 1 0)) (m k l)

    -- a free slot
    module _ (u : get_or w (k * request_words) 0 ≡ 0) where
      free-used : used k ≡ false
      unfolding decoded
      free-used = rw (slot-there w k l, first, u)

      free_right : wrong k ≡ false
      unfolding row_stands decoded
      free_right = rw (slot-there w k l, first, u)

    -- a word of use that is no mark
    stray_wrong : (get_or w (k * request_words) 0 ≡ 0 → ⊥) → (get_or w (k * request_words) 0 ≡ 1 → ⊥) → wrong k ≡ true
    unfolding row_stands
    stray_wrong d e = rw (first, lt-leb (get_or w (k * request_words) 0) 1 (omega arith))

    pub heavy_where_wrong : wrong k ≡ true → heavy ≤ weight k
    heavy_where_wrong t =
        by_test (eqb (get_or w (k * request_words) 0) 1)
        (λ e. let z = one_weighs (eqb-true _ 1 e) ∙ ap (λ (b : Bool). cond b heavy (cond named 1 0)) t in omega arith)
        (λ e.
        let z = stray_weighs n fair (get_or seen k false) w (k * request_words) (eqb-false _ 1 e) in
        let d : get_or w (k * request_words) 0 ≡ 0 → ⊥ = λ f. clash t (free_right f) in
        omega arith)

    pub light_where_right : wrong k ≡ false → weight k ≡ used_in used q k
    light_where_right f =
        by_test (eqb (get_or w (k * request_words) 0) 1)
        (λ e.
        let u = eqb-true _ 1 e in
        one_weighs u ∙ ap (λ (b : Bool). cond b heavy (cond named 1 0)) f ∙ sym (ap (λ (b : Bool). cond (b && named) 1 0) (one_used u)))
        (λ e.
        by_test (eqb (get_or w (k * request_words) 0) 0)
        (λ g.
        let u = eqb-true _ 0 g in
        free_weighs n fair (get_or seen k false) w (k * request_words) u ∙ sym (ap (λ (b : Bool). cond (b && named) 1 0) (free-used u)))
        (λ g. clash (stray_wrong (eqb-false _ 0 g) (eqb-false _ 1 e)) f))

  -- all of them
  sum-heavy : (c i : ℕ) → i + c ≤ slot_count → any_of (is_wrong n fair w q) (slots_from c i) ≡ true → heavy ≤ sum_from weight c i
  unfolding any_of slots_from sum_from
  sum-heavy zero i l e = clash e refl
  sum-heavy (suc c) i l e =
      by_test (wrong i)
      (λ t. omega (arith, heavy_where_wrong i (omega arith) t))
      (λ f. omega (arith, sum-heavy c (suc i) (omega arith) (sym (ap (λ (b : Bool). b || any_of (is_wrong n fair w q) (slots_from c (suc i))) f) ∙ e)))

  sum_light : (c i : ℕ) → i + c ≤ slot_count → any_of (is_wrong n fair w q) (slots_from c i) ≡ false → sum_from weight c i ≡ sum_from (used_in used q) c i
  unfolding any_of slots_from sum_from
  sum_light zero i l e = refl
  sum_light (suc c) i l e =
      let b = neither (wrong i) _ e in
      rw (light_where_right i (omega arith) b.0, sum_light c (suc i) (omega arith) b.1)

  below : (k : ℕ) → used k ≡ true → k < slot_count
  below k u =
      elim (dec_lt k slot_count) [
        | yes l ↦ l
        | no l ↦ clash u (ap (λ (o : Option RequestRule). is_some o) (slot_past w k (omega arith)))
      ]

  pub weighed : length q ≤ slot_count → not (eqb (sum_from weight slot_count 0) (length q)) ≡ broken_slots n fair q w
  unfolding broken_slots
  weighed l =
      by_test (any_of (is_wrong n fair w q) every_slot)
      (λ t.
      let h = sum-heavy slot_count 0 (omega arith) t in
      rw (t, ne_eqb (sum_from weight slot_count 0) (length q) (λ e. omega arith)))
      (λ f. rw (f, sum_light slot_count 0 (omega arith) f) (counted_all used slot_count below q))
