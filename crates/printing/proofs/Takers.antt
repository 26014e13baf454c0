-- The takers of grants: the first, and each other behind a comma.
use Prim.Native.Nat.{ℕ, zero, suc, ◌+◌, ◌*◌, ◌≤◌, ◌<◌}
use native.Mathlib.Nat.{zero-add}
use native.Mathlib.Numerals.{add-one}
use native.Mathlib.Decide.{dec_le}
use native.Mathlib.Omega.{arith}
use mathlib.Core.Path.{◌≡◌, refl, ap, sym, ◌∙◌}
use mathlib.Core.List.{List, [], ◌∷◌, ◌++◌, append_assoc, append-nil}
use lib.ListN.{length, get_or, drop, length-append}
use lib.Seq.{drop-append-le}
use Rattle.rules.specs.declared.Grant.{Grant}
use Rattle.rules.specs.Text.{comma, joined_by}
use Rattle.rules.specs.Script.{taker_text, grants_text}
use Rattle.tables.specs.Table.{table}
use Rattle.tables.proofs.Tables.{table_more}
use Rattle.text.specs.Writing.{Appended}
use Rattle.text.proofs.Buffer.{appended_none, appended_then}
use Rattle.words.specs.View.{taker_of, grant_of, grant_words_in, grants_of}
use Rattle.words.proofs.Grants.{grants-number}
use Rattle.printing.specs.Printed.{takers_text, each_behind_comma, rest_text}
use Rattle.printing.proofs.Chain.{Room, pair, here, onward}

each_more : (gs : List Grant) (g : Grant) → each_behind_comma (gs ++ g ∷ []) ≡ each_behind_comma gs ++ comma ∷ taker_text g.taker
unfolding each_behind_comma
each_more [] g = ap (λ (l : List ℕ). comma ∷ l) (append-nil (taker_text g.taker))
each_more (h ∷ gs) g = ap (λ (l : List ℕ). comma ∷ taker_text h.taker ++ l) (each_more gs g) ∙ sym (append_assoc (comma ∷ taker_text h.taker) (each_behind_comma gs) (comma ∷ taker_text g.taker))

takers_from : (g : Grant) (gs : List Grant) → takers_text (g ∷ gs) ≡ taker_text g.taker ++ each_behind_comma gs
unfolding joined_by each_behind_comma
takers_from g [] = sym (append-nil (taker_text g.taker))
takers_from g (h ∷ gs) = ap (λ (l : List ℕ). taker_text g.taker ++ comma ∷ l) (takers_from h gs)

-- The grants that stand in words.
module _ (w : List ℕ) where
  abbrev taker : ℕ → ℕ
  taker i = get_or w (3 * i) 0

  one_more_lem : (i : ℕ) → grants_of (i + 1) w ≡ grants_of i w ++ grant_of (grant_words_in w i) ∷ []
  unfolding grants_of
  one_more_lem i =
      rw (add-one i)
      (table_more (λ (k : ℕ). grant_of (grant_words_in w k)) (λ (k : ℕ). grant_of (grant_words_in w k)) i 0 (λ k h. refl) ∙ rw (zero-add i))

  rest_one : rest_text (grants_of 1 w) ≡ []
  unfolding grants_of table each_behind_comma
  rest_one = refl

  rest_more : (i : ℕ) → 0 < i → rest_text (grants_of (i + 1) w) ≡ rest_text (grants_of i w) ++ comma ∷ taker_text (taker_of (taker i))
  rest_more i z =
      let l : 1 ≤ length (grants_of i w) = rw (grants-number i w) z in
      rw (one_more_lem i, drop-append-le 1 (grants_of i w) (grant_of (grant_words_in w i) ∷ []) l) (each_more (drop 1 (grants_of i w)) (grant_of (grant_words_in w i)))

  -- fewer grants are no longer
  rest-within : (i n : ℕ) → 0 < i → i ≤ n → length (rest_text (grants_of i w)) ≤ length (rest_text (grants_of n w))
  rest-within i zero z l = absurd (omega arith)
  rest-within i (suc n) z l =
      elim (dec_le i n) [
        | yes h ↦
            let m = ap length (rest_more n (omega arith)) ∙ length-append (rest_text (grants_of n w)) (comma ∷ taker_text (taker_of (taker n))) in
            rw (← add-one n) (omega (arith, m, rest-within i n z h))
        | no h ↦ let e : i ≡ suc n = omega arith in rw e (omega arith)
      ]

  takers_first : (n : ℕ) → 0 < n → takers_text (grants_of n w) ≡ taker_text (taker_of (taker 0)) ++ rest_text (grants_of n w)
  unfolding grants_of table
  takers_first zero z = absurd (omega arith)
  takers_first (suc n) z = takers_from (grant_of (grant_words_in w 0)) (table (λ (k : ℕ). grant_of (grant_words_in w k)) 1 n)

  granted_text : (n : ℕ) → 0 < n → takers_text (grants_of n w) ≡ grants_text (grants_of n w)
  unfolding grants_of table
  granted_text zero z = absurd (omega arith)
  granted_text (suc n) z = refl

-- Written: nothing yet, one more, and all.
pub rest_starts : (buf : List ℕ) (at : ℕ) (w : List ℕ) → Appended buf at (rest_text (grants_of 1 w)) buf at
rest_starts buf at w = rw (rest_one w) (appended_none buf at)

module _ (old : List ℕ) (at n : ℕ) (w : List ℕ) (room : at + length (rest_text (grants_of n w)) ≤ length old) where
  module _ (buf : List ℕ) (p i : ℕ) (z : 0 < i) (h : i < n) (a : Appended old at (rest_text (grants_of i w)) buf p) where
    next-room : Room old at (rest_text (grants_of i w) ∷ (comma ∷ taker_text (taker_of (get_or w (3 * i) 0))) ∷ [])
    next-room =
        pair (rest_text (grants_of i w)) (comma ∷ taker_text (taker_of (get_or w (3 * i) 0)))
        (rw (← rest_more w i z) (omega (arith, rest-within w (i + 1) n (omega arith) (omega arith))))

    pub room_next : p + length (comma ∷ taker_text (taker_of (get_or w (3 * i) 0))) ≤ length buf
    room_next = here (onward next-room a)

    pub rest_goes_on : (new : List ℕ) (r : ℕ) → Appended buf p (comma ∷ taker_text (taker_of (get_or w (3 * i) 0))) new r → Appended old at (rest_text (grants_of (i + 1) w)) new r
    rest_goes_on new r b = rw (rest_more w i z) (appended_then a (here next-room) b)

pub rest-ends : (old new : List ℕ) (at r i n : ℕ) (w : List ℕ) → i ≤ n → n ≤ i → Appended old at (rest_text (grants_of i w)) new r → Appended old at (rest_text (grants_of n w)) new r
rest-ends old new at r i n w a b p = let e : i ≡ n = omega arith in rw (← e) p

module _ (old : List ℕ) (at n : ℕ) (w : List ℕ) (z : 0 < n) (room : at + length (takers_text (grants_of n w)) ≤ length old) where
  first-room : Room old at (taker_text (taker_of (get_or w 0 0)) ∷ rest_text (grants_of n w) ∷ [])
  first-room = pair (taker_text (taker_of (get_or w 0 0))) (rest_text (grants_of n w)) (rw (takers_first w n z) at room)

  pub room-taker : at + length (taker_text (taker_of (get_or w 0 0))) ≤ length old
  room-taker = here first-room

  module _ (mid : List ℕ) (p : ℕ) (a : Appended old at (taker_text (taker_of (get_or w 0 0))) mid p) where
    pub room-rest : p + length (rest_text (grants_of n w)) ≤ length mid
    room-rest = here (onward first-room a)

    pub takers_written : (new : List ℕ) (r : ℕ) → Appended mid p (rest_text (grants_of n w)) new r → Appended old at (takers_text (grants_of n w)) new r
    takers_written new r b = rw (takers_first w n z) (appended_then a room-taker b)

-- no grants, and some
module _ (old : List ℕ) (at n : ℕ) (w : List ℕ) where
  module _ (z : n ≡ 0) where
    pub room_dash : at + length (grants_text (grants_of n w)) ≤ length old → at + 1 ≤ length old
    unfolding grants_of table
    room_dash room = rw z at room

    pub none_written : (new : List ℕ) (r : ℕ) → Appended old at (45 ∷ []) new r → Appended old at (grants_text (grants_of n w)) new r
    unfolding grants_of table
    none_written new r a = rw z a

  module _ (z : n ≡ 0 → ⊥) where
    pub room_takers : at + length (grants_text (grants_of n w)) ≤ length old → at + length (takers_text (grants_of n w)) ≤ length old
    room_takers room = rw (granted_text w n (omega arith)) room

    pub some_written : (new : List ℕ) (r : ℕ) → Appended old at (takers_text (grants_of n w)) new r → Appended old at (grants_text (grants_of n w)) new r
    some_written new r p = rw (granted_text w n (omega arith)) at p
