-- The lowest free slot: those passed are in use.
use Rattle.std.specs.Prelude.{Option, None, Some}
use Prim.Native.Nat.{ℕ, suc, ◌+◌, ◌*◌, ◌≤◌, ◌<◌}
use native.Mathlib.Numerals.{add-one}
use native.Mathlib.Nat.{add-zero}
use native.Mathlib.Omega.{arith}
use mathlib.Core.Path.{◌≡◌, ap, ◌∙◌}
use mathlib.Core.List.{List, ◌∷◌}
use borrow.Author.Tests.{ne_eqb}
use lib.ListN.{get_or, drop, drop_of_length-le}
use lib.Seq.{drop-cons, get_or-take, get_or-drop}
use Rattle.rules.specs.Sizes.{slot_count}
use Rattle.splitting.specs.Plain.{Request as RequestRule}
use Rattle.splitting.specs.Who.{lowest_free}
use Rattle.tables.specs.Table.{row}
use Rattle.records.specs.View.{request_of}
use Rattle.words.specs.View.{request_words, decoded, slot_in, slots_of}
use Rattle.words.proofs.Slots.{slot-there, length-slots}

module _ (w : List ℕ) (i : ℕ) (inside : i < slot_count) where
  first_word : get_or (row request_words w i) 0 0 ≡ get_or w (i * request_words) 0
  first_word = get_or-take request_words (drop (i * request_words) w) 0 0 (omega arith) ∙ get_or-drop (i * request_words) w 0 0 ∙ ap (λ (k : ℕ). get_or w k 0) (add-zero (i * request_words))

  ahead : (o : Option RequestRule) → slot_in w i ≡ o → lowest_free (drop i (slots_of w)) ≡ lowest_free (o ∷ drop (suc i) (slots_of w))
  ahead o e = rw (drop-cons (slots_of w) i None (omega (arith, length-slots w)), slot-there w i inside, e)

  pub free_here : (n : ℕ) → get_or w (i * request_words) 0 ≡ 0 → i + lowest_free (drop i (slots_of w)) ≡ n → i ≡ n
  unfolding lowest_free decoded
  free_here n e q =
      let f : slot_in w i ≡ None = rw (first_word, e) in
      let z : lowest_free (drop i (slots_of w)) ≡ 0 = ahead None f in
      omega arith

  pub used_here : (n : ℕ) → (get_or w (i * request_words) 0 ≡ 0 → ⊥) → i + lowest_free (drop i (slots_of w)) ≡ n → (i + 1) + lowest_free (drop (i + 1) (slots_of w)) ≡ n
  unfolding lowest_free decoded
  used_here n d q =
      let f : slot_in w i ≡ Some (request_of (decoded (row request_words w i))) = rw (first_word, ne_eqb (get_or w (i * request_words) 0) 0 d) in
      let z : lowest_free (drop i (slots_of w)) ≡ suc (lowest_free (drop (suc i) (slots_of w))) = ahead _ f in
      let y : lowest_free (drop (i + 1) (slots_of w)) ≡ lowest_free (drop (suc i) (slots_of w)) = rw add-one in
      omega arith

pub none_free : (w : List ℕ) (i n : ℕ) → slot_count ≤ i → i + lowest_free (drop i (slots_of w)) ≡ n → i ≡ n
unfolding lowest_free
none_free w i n h q =
    let z : lowest_free (drop i (slots_of w)) ≡ 0 = rw (drop_of_length-le (slots_of w) {i = i} (omega (arith, length-slots w))) in
    omega arith
