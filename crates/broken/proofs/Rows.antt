-- The tests of a request's words say exactly whether they stand for nothing, or for a request that is not as it must be.
use Prim.Native.Nat.{ℕ, ◌+◌, ◌*◌, ◌≤◌, ◌<◌}
use native.Mathlib.Omega.{arith}
use mathlib.Core.Path.{◌≡◌, ◌∙◌}
use mathlib.Core.Bool.{Bool, true, false, cond, not, ◌&&◌, ◌||◌, beq}
use mathlib.Core.List.{List}
use borrow.Author.Tests.{ltb-false, leb-true, leb-false, eqb-true, eqb-false, le-ltb, le-leb, lt-leb, ne_eqb, not-false}
use lib.Dec.{leb, ltb, eqb}
use lib.ListN.{get_or, drop}
use lib.Seq.{get_or-take, get_or-drop}
use Rattle.rules.specs.Refusals.{bad_reserving}
use Rattle.rules.proofs.Bools.{clash, neither, ◌nor◌, both, beq_same}
use Rattle.splitting.specs.Broken.{misfits}
use Rattle.splitting.proofs.Broken.{same_test}
use Rattle.tables.specs.Table.{row}
use Rattle.records.specs.View.{seen}
use Rattle.words.specs.View.{marked, is_kind, is_mark, request_words, decoded, row_stands}
use Rattle.broken.specs.Weights.{words_at, request_wrong}

pub row_word : (w : List ℕ) (k j : ℕ) → j < request_words → get_or (row request_words w k) j 0 ≡ get_or w (k * request_words + j) 0
row_word w k j h = get_or-take request_words (drop (k * request_words) w) j 0 h ∙ get_or-drop (k * request_words) w j 0

-- a mark's word, by what it stands for
unmarked : (x : ℕ) → marked x ≡ false → x ≡ 0
unmarked x e = eqb-true x 0 (not-false (eqb x 0) e)

one : (x : ℕ) → is_mark x ≡ true → marked x ≡ true → x ≡ 1
one x m e = let d : x ≡ 0 → ⊥ = λ z. clash e (rw z) in omega (arith, leb-true x 1 m)

-- the words: asked, least, kind, reserving, task, queued, holding, completed, polled
module _ (n : ℕ) (fair : Bool) (a l k s t q h d p : ℕ) where
  -- what a request's words say where nothing is wrong, named by the queue or not
  abbrev Placed : Bool → Type 0
  Placed true = (a ≡ 0 → ⊥) × (q ≡ 1) × (h ≡ 0) × (d ≡ 0) × (t < n)
  Placed false = (q ≡ 0) × (h ≤ 1) × (d ≤ 1)

  record Right (named : Bool) : Type 0 where
    kind : k ≤ 2
    reserving : s ≤ 1
    asked : (marked s && (fair || bad_reserving l a)) ≡ false
    polled : p ≤ 1
    placed : Placed named

  abbrev tests : Bool → Bool
  tests named =
      (ltb 2 k || ltb 1 s || (marked s && (fair || bad_reserving l a)))
      || ltb 1 p
      || cond named (eqb a 0 || not (eqb q 1) || marked h || marked d || leb n t) (marked q || ltb 1 h || ltb 1 d)

  abbrev stand : Bool
  stand = is_kind k && is_mark s && is_mark q && is_mark h && is_mark d && is_mark p

  abbrev misfit : Bool → Bool
  misfit named =
      not (beq (marked q) named) || (marked s && (fair || bad_reserving l a)) || (named && (eqb a 0 || (marked h || marked d || leb n t)))

  passed : (named : Bool) → tests named ≡ false → Right named
  passed named e =
      let r = neither _ _ e in
      let b = neither _ _ r.0 in
      let c = neither _ _ b.0 in
      let g = neither _ _ c.0 in
      record { kind = ltb-false 2 k g.0; reserving = ltb-false 1 s g.1; asked = c.1; polled = ltb-false 1 p b.1; placed = place named r.1 }
    where
      place : (b : Bool) → cond b (eqb a 0 || not (eqb q 1) || marked h || marked d || leb n t) (marked q || ltb 1 h || ltb 1 d) ≡ false → Placed b
      place true e =
          let f4 = neither _ _ e in
          let f3 = neither _ _ f4.0 in
          let f2 = neither _ _ f3.0 in
          let f1 = neither _ _ f2.0 in
          (eqb-false a 0 f1.0, eqb-true q 1 (not-false _ f1.1), unmarked h f2.1, unmarked d f3.1, leb-false n t f4.1)
      place false e =
          let f2 = neither _ _ e in
          let f1 = neither _ _ f2.0 in
          (unmarked q f1.0, ltb-false 1 h f1.1, ltb-false 1 d f2.1)

  passes : (named : Bool) → Right named → tests named ≡ false
  passes named r = (le-ltb 2 k r.kind nor le-ltb 1 s r.reserving nor r.asked) nor le-ltb 1 p r.polled nor place named r.placed
    where
      place : (b : Bool) → Placed b → cond b (eqb a 0 || not (eqb q 1) || marked h || marked d || leb n t) (marked q || ltb 1 h || ltb 1 d) ≡ false
      place true v = rw (ne_eqb a 0 v.0, v.1, v.2, v.3, lt-leb n t v.4)
      place false v = rw (v.0, le-ltb 1 h v.1, le-ltb 1 d v.2)

  fits : (named : Bool) → Right named → not stand || misfit named ≡ false
  fits named r = rw (le-leb k 2 r.kind, le-leb s 1 r.reserving, le-leb p 1 r.polled, r.asked) (place named r.placed)
    where
      place : (b : Bool) → Placed b
          → not (is_mark q && is_mark h && is_mark d && true) || (not (beq (marked q) b) || false || (b && (eqb a 0 || (marked h || marked d || leb n t)))) ≡ false
      place true v = rw (ne_eqb a 0 v.0, v.1, v.2, v.3, lt-leb n t v.4)
      place false v = rw (v.0, le-leb h 1 v.1, le-leb d 1 v.2)

  fitted : (named : Bool) → not stand || misfit named ≡ false → Right named
  fitted named e =
      let r = neither (not stand) (misfit named) e in
      let p5 = both _ (is_mark p) (not-false stand r.0) in
      let p4 = both _ (is_mark d) p5.0 in
      let p3 = both _ (is_mark h) p4.0 in
      let p2 = both _ (is_mark q) p3.0 in
      let p1 = both (is_kind k) (is_mark s) p2.0 in
      let m2 = neither _ _ r.1 in
      let m1 = neither _ _ m2.0 in
      record {
        kind = leb-true k 2 p1.0;
        reserving = leb-true s 1 p1.1;
        asked = m1.1;
        polled = leb-true p 1 p5.1;
        placed = place named p2.1 p3.1 p4.1 (beq_same (marked q) named (not-false _ m1.0)) m2.1;
      }
    where
      place : (b : Bool) → is_mark q ≡ true → is_mark h ≡ true → is_mark d ≡ true → marked q ≡ b → (b && (eqb a 0 || (marked h || marked d || leb n t))) ≡ false → Placed b
      place true mq mh md e w =
          let f2 = neither _ _ w in
          let f1 = neither _ _ f2.1 in
          let f0 = neither _ _ f1.0 in
          (eqb-false a 0 f2.0, one q mq e, unmarked h f0.0, unmarked d f0.1, leb-false n t f1.1)
      place false mq mh md e w = (unmarked q e, leb-true h 1 mh, leb-true d 1 md)

  judged : (named : Bool) → tests named ≡ not stand || misfit named
  judged named = same_test (tests named) _ (λ e. fits named (passed named e)) (λ e. passes named (fitted named e))

-- a row in use
pub row_judged : (n : ℕ) (fair named : Bool) (r : List ℕ) → get_or r 0 0 ≡ 1
    → request_wrong n fair named (words_at r 0) ≡ not (row_stands r) || misfits n fair named (seen (decoded r))
unfolding row_stands decoded
row_judged n fair named r u =
    rw u (judged n fair (get_or r 1 0) (get_or r 2 0) (get_or r 3 0) (get_or r 4 0) (get_or r 5 0) (get_or r 6 0) (get_or r 7 0) (get_or r 8 0) (get_or r 9 0) named)
