-- Requests in their slots: one read, one written, the others as they were.
use Rattle.std.specs.Prelude.{Option, None, option_map, unwrap_or}
use Prim.Native.Nat.{ℕ, ◌*◌, ◌≤◌, ◌<◌}
use native.Mathlib.Nat.{zero-add}
use borrow.Author.Tests.{eqb-true, eqb-false}
use native.Mathlib.Omega.{arith}
use mathlib.Core.Path.{◌≡◌, refl, sym, ap, ◌∙◌}
use mathlib.Core.Bool.{Bool, true, false, not, ◌||◌}
use mathlib.Core.List.{List}
use lib.Dec.{eqb}
use lib.ListN.{length, get_or, set}
use lib.Seq.{paste, set_out}
use Rattle.rules.specs.declared.Slot.{Slot}
use Rattle.rules.specs.Sizes.{slot_count}
use Rattle.splitting.specs.Plain.{Request as RequestRule, no_request}
use Rattle.tables.specs.Table.{row}
use Rattle.tables.proofs.Rows.{row_same, row_other}
use Rattle.tables.proofs.Tables.{table-set, table_get, table-length, table_past}
use Rattle.records.specs.declared.Request.{Request}
use Rattle.records.specs.declared.Marking.{Marking}
use Rattle.records.specs.View.{seen, Stands, Changed, marking}
use Rattle.records.proofs.Standing.{changed_seen}
use Rattle.words.specs.View.{marked, mark_word, request_words, decoded, encoded, slot_in, slots_of, altered, row_stands, SlotsStand, SlotsShow}
use Rattle.words.proofs.Single.{mark_back, kind_back, mark_stands, kind_stands}

-- ---- a row
pub encoded-back : (r : Request) → decoded (encoded r) ≡ r
unfolding decoded encoded
encoded-back r =
    λ i.
    record {
      used = mark_back r.used i;
      ask = record { asked = r.ask.asked; least = r.ask.least; kind = kind_back r.ask.kind i; reserving = mark_back r.ask.reserving i };
      task = r.task;
      queued = mark_back r.queued i;
      holding = mark_back r.holding i;
      completed = mark_back r.completed i;
      polled = mark_back r.polled i;
    }

pub encoded-length : (r : Request) → length (encoded r) ≡ request_words
unfolding encoded
encoded-length r = refl

or-true : (b : Bool) → (b || true) ≡ true
or-true true = refl
or-true false = refl

pub encoded-stands : (r : Request) → row_stands (encoded r) ≡ true
unfolding encoded row_stands
encoded-stands r =
    rw (
      mark_stands r.used,
      kind_stands r.ask.kind,
      mark_stands r.ask.reserving,
      mark_stands r.queued,
      mark_stands r.holding,
      mark_stands r.completed,
      mark_stands r.polled,
    )
    (or-true (not (marked (mark_word r.used))))

-- ---- reading
pub slot-there : (w : List ℕ) (k : ℕ) → k < slot_count → get_or (slots_of w) k None ≡ slot_in w k
unfolding slots_of
slot-there w k l = table_get (slot_in w) None slot_count k 0 l ∙ ap (slot_in w) (zero-add k)

pub slot_past : (w : List ℕ) (k : ℕ) → slot_count ≤ k → get_or (slots_of w) k None ≡ None
unfolding slots_of
slot_past w k l = table_past (slot_in w) None slot_count k l

pub length-slots : (w : List ℕ) → length (slots_of w) ≡ slot_count
unfolding slots_of
length-slots w = table-length (slot_in w) None slot_count 0

pub stands_past : (w : List ℕ) (k : ℕ) (r : Request) → slot_count ≤ k → Stands r None → Stands r (get_or (slots_of w) k None)
stands_past w k r l s = rw (slot_past w k l) s

pub stands-there : (w ws : List ℕ) (k : ℕ) (r q : Request) → k < slot_count → ws ≡ row request_words w k → r ≡ decoded ws → Stands q (seen r) → Stands q (get_or (slots_of w) k None)
stands-there w ws k r q l ew er s =
    let e : seen r ≡ get_or (slots_of w) k None = ap (λ (z : Request). seen z) (er ∙ ap decoded ew) ∙ sym (slot-there w k l) in
    record { used = s.used ∙ e; view = s.view ∙ ap (λ (o : Option RequestRule). unwrap_or o no_request) e }

-- ---- writing
module _ (w : List ℕ) (i : ℕ) (r : Request) (inside : i < slot_count) (sized : length w ≡ slot_count * request_words) where
  abbrev after : List ℕ
  after = paste w (i * request_words) (encoded r) request_words

  same : row request_words after i ≡ encoded r
  same = row_same request_words slot_count w i (encoded r) inside sized (encoded-length r)

  other : (k : ℕ) → (k ≡ i → ⊥) → row request_words after k ≡ row request_words w k
  other k d = row_other request_words slot_count w i (encoded r) inside sized (encoded-length r) k d

  stored : slots_of after ≡ set (slots_of w) i (seen r)
  unfolding slots_of
  stored =
      table-set (slot_in w) (slot_in after) slot_count i 0 inside (λ k d. rw (other k (λ q. d (q ∙ sym (zero-add i)))))
      ∙ rw (zero-add i, same, encoded-back r)

  still : SlotsStand w → SlotsStand after
  still s k = by_place (eqb k i) refl
    where
      by_place : (b : Bool) → eqb k i ≡ b → row_stands (row request_words after k) ≡ true
      by_place true e = ap (λ (n : ℕ). row_stands (row request_words after n)) (eqb-true k i e) ∙ ap row_stands same ∙ encoded-stands r
      by_place false e = ap row_stands (other k (eqb-false k i e)) ∙ s k

pub put_there : (w after ws : List ℕ) (i : ℕ) (r : Request) → i < slot_count → length w ≡ slot_count * request_words → ws ≡ encoded r
    → after ≡ paste w (i * request_words) ws request_words → SlotsShow after w (set (slots_of w) i (seen r))
put_there w after ws i r l s e p =
    let q : after ≡ paste w (i * request_words) (encoded r) request_words = p ∙ ap (λ (l : List ℕ). paste w (i * request_words) l request_words) e in
    record { view = ap slots_of q ∙ stored w i r l s; stand = λ h k. ap (λ (l : List ℕ). row_stands (row request_words l k)) q ∙ still w i r l s h k }

pub put_past : (w : List ℕ) (i : ℕ) (o : Option RequestRule) → slot_count ≤ i → SlotsShow w w (set (slots_of w) i o)
put_past w i o l = record { view = sym (set_out (slots_of w) i o (omega (arith, length-slots w))); stand = λ h. h }

pub mark_there : (w after ws : List ℕ) (x : Slot) (m : Marking) (r q : Request) → x.0 < slot_count → ws ≡ row request_words w x.0 → r ≡ decoded ws
    → Changed (marking m) r q → SlotsShow after w (set (slots_of w) x.0 (seen q)) → SlotsShow after w (altered x (marking m) (slots_of w))
mark_there w _ ws x m r q l ew er c p =
    record {
      view =
          p.view
          ∙ ap (λ (o : Option RequestRule). set (slots_of w) x.0 o)
          (changed_seen (marking m) r q c ∙ ap (λ (z : Request). option_map (marking m) (seen z)) (er ∙ ap decoded ew) ∙ ap (λ (o : Option RequestRule). option_map (marking m) o) (sym (slot-there w x.0 l)));
      stand = p.stand;
    }

pub mark_past : (w : List ℕ) (x : Slot) (m : Marking) → slot_count ≤ x.0 → SlotsShow w w (altered x (marking m) (slots_of w))
mark_past w x m l = put_past w x.0 (option_map (marking m) (get_or (slots_of w) x.0 None)) l

pub freed : (w after : List ℕ) (x : Slot) (r : Request) → Stands r None → SlotsShow after w (set (slots_of w) x.0 (seen r)) → SlotsShow after w (set (slots_of w) x.0 None)
freed w _ x r s p = record { view = p.view ∙ ap (λ (o : Option RequestRule). set (slots_of w) x.0 o) s.used; stand = p.stand }
