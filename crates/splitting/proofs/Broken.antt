-- Row 14's clauses, those of the plain part grouped as a program looks at them, say the same as in the document's order.
use Rattle.std.specs.Prelude.{Option, None, Some, is_some, unwrap_or}
use Prim.Native.Nat.{ℕ}
use native.Mathlib.Omega.{arith}
use mathlib.Core.Path.{◌≡◌, refl, sym, ap, ◌∙◌}
use mathlib.Core.Bool.{Bool, true, false, not, ◌&&◌, ◌||◌, beq}
use mathlib.Core.List.{List, [], ◌∷◌}
use borrow.Author.Tests.{leb-false, not-false}
use lib.Dec.{leb, ltb, eqb}
use lib.ListN.{length, get_or}
use Rattle.rules.specs.declared.Slot.{Slot}
use Rattle.rules.specs.Sizes.{max_tasks, slot_count}
use Rattle.rules.specs.Request as R
use Rattle.rules.specs.State as S
use Rattle.rules.specs.State.{State}
use Rattle.rules.specs.Refusals.{bad_reserving}
use Rattle.rules.specs.Broken as F
use Rattle.rules.specs.Broken.{any_of, member, every_slot, reserved_slots, is_beyond, broken}
use Rattle.rules.proofs.Bools.{clash, neither, ◌nor◌, not_both, and_other}
use Rattle.rules.proofs.Queues.{none_of, no_member, member_fails, slot_fails, no_slot}
use Rattle.rules.proofs.Soundness.{Clauses, clauses, unbroken}
use Rattle.splitting.specs.Plain.{Plain}
use Rattle.splitting.specs.Times.{Times}
use Rattle.splitting.specs.Split.{forget, forget_slot, whole}
use Rattle.splitting.specs.Broken.{misfits, is_misfit, is_free, cannot_reserve, broken_plain, bad_batches}
use Rattle.splitting.proofs.Changes.{slot-plain, request-plain, used-plain, count-plain}
use Rattle.splitting.proofs.Whole.{forget-whole}

-- two tests are the same where one fails exactly if the other does
pub same_test : (x y : Bool) → (x ≡ false → y ≡ false) → (y ≡ false → x ≡ false) → x ≡ y
same_test true true f g = refl
same_test true false f g = clash refl (g refl)
same_test false true f g = sym (f refl)
same_test false false f g = refl

module _ {A : Type 0} where
  -- none meets either of two tests
  none_either : (p q : A → Bool) (l : List A) → any_of p l ≡ false → any_of q l ≡ false → any_of (λ x. p x || q x) l ≡ false
  unfolding any_of
  none_either p q [] e f = refl
  none_either p q (x ∷ l) e f =
      let h = none_of p x l e in
      let k = none_of q x l f in
      (h.0 nor k.0) nor none_either p q l h.1 k.1

  none_apart : (p q : A → Bool) (l : List A) → any_of (λ x. p x || q x) l ≡ false → (any_of p l ≡ false) × (any_of q l ≡ false)
  unfolding any_of
  none_apart p q [] e = (refl, refl)
  none_apart p q (x ∷ l) e =
      let h = none_of (λ x. p x || q x) x l e in
      let b = neither (p x) (q x) h.0 in
      let r = none_apart p q l h.1 in
      (b.0 nor r.0, b.1 nor r.1)

  pub any_same : (p q : A → Bool) (l : List A) → ((x : A) → p x ≡ q x) → any_of p l ≡ any_of q l
  unfolding any_of
  any_same p q [] f = refl
  any_same p q (x ∷ l) f = rw (f x, any_same p q l f)

module _ (s : State) where
  abbrev p : Plain
  p = forget s

  -- the clauses of a slot, together: its marks, what it was made with, and where the queue names it
  abbrev marks : Slot → Bool
  marks x = F.is_mis_marked s x || F.is_mis_made s x

  abbrev named : Slot → Bool
  named x = member x s.queue && (S.in_use x s && (F.asks_nothing s x || F.cannot_wait s x))

  slot_clauses : (x : Slot) → is_misfit p x ≡ marks x || named x
  slot_clauses x = rw (count-plain s, slot-plain x s) (go (get_or s.slots x.0 None))
    where
      m : Bool
      m = member x s.queue

      n : ℕ
      n = length s.tasks

      and_none : (b : Bool) → b && false ≡ false
      and_none true = refl
      and_none false = refl

      go : (o : Option R.Request) → misfits n (S.strict s) m (forget_slot o)
          ≡ ((is_some o && not (beq (unwrap_or o R.no_request).queued m))
          || ((unwrap_or o R.no_request).ask.reserving && (S.strict s || bad_reserving (unwrap_or o R.no_request).ask.least (unwrap_or o R.no_request).ask.asked)))
          || (m && (is_some o && (eqb (unwrap_or o R.no_request).ask.asked 0 || ((unwrap_or o R.no_request).holding || (unwrap_or o R.no_request).completed || leb n (unwrap_or o R.no_request).task.0))))
      go None = sym (and_none m)
      go (Some r) = refl

  free-plain : any_of (is_free p) s.queue ≡ any_of (F.is_free s) s.queue
  free-plain = any_same (is_free p) (F.is_free s) s.queue (λ x. ap not (used-plain x s))

  reserved_clauses : (x : Slot) → (is_beyond x || cannot_reserve p x) ≡ (is_beyond x || F.cannot_reserve s x) || F.cannot_wait s x
  reserved_clauses x = rw (count-plain s, used-plain x s, request-plain x s) (go (is_beyond x) (F.cannot_reserve s x) (F.cannot_wait s x))
    where
      go : (a b c : Bool) → a || (b || c) ≡ (a || b) || c
      go true b c = refl
      go false b c = refl

  grouped : Clauses s → broken_plain p || bad_batches (S.stock s) s.permits.batches ≡ false
  unfolding broken_plain
  grouped c =
      ((ap (ltb max_tasks) (count-plain s) ∙ c.tasks)
      nor c.queue
      nor (c.beyond nor (free-plain ∙ c.free) nor c.once)
      nor (any_same (is_misfit p) (λ x. marks x || named x) every_slot slot_clauses ∙ none_either marks named every_slot (none_either (F.is_mis_marked s) (F.is_mis_made s) every_slot c.marks c.made) waiting)
      nor (any_same _ _ (reserved_slots s.reservation) reserved_clauses
      ∙ none_either (λ x. is_beyond x || F.cannot_reserve s x) (F.cannot_wait s) (reserved_slots s.reservation)
      (none_either is_beyond (F.cannot_reserve s) (reserved_slots s.reservation) c.reserved-beyond c.reserves) c.reserved-waits)
      nor c.closed)
      nor (c.batches nor c.sizes nor c.sum)
    where
      waiting : any_of named every_slot ≡ false
      waiting =
          no_slot named slot_count 0
          (λ x.
          not_both (member x s.queue) _
          (λ m. not_both (S.in_use x s) _ (λ u. member_fails (F.asks_nothing s) s.queue c.asks x m nor member_fails (F.cannot_wait s) s.queue c.waits x m)))

  ungrouped : broken_plain p || bad_batches (S.stock s) s.permits.batches ≡ false → Clauses s
  unfolding broken_plain
  ungrouped e =
      let h = neither _ _ e in
      let b2 = neither _ _ h.1 in
      let b1 = neither _ _ b2.0 in
      let c5 = neither _ _ h.0 in
      let c4 = neither _ _ c5.0 in
      let c3 = neither _ _ c4.0 in
      let c2 = neither _ _ c3.0 in
      let c1 = neither _ _ c2.0 in
      let q2 = neither _ _ c2.1 in
      let q1 = neither _ _ q2.0 in
      let f = none_apart marks named every_slot (sym (any_same (is_misfit p) (λ x. marks x || named x) every_slot slot_clauses) ∙ c3.1) in
      let m = none_apart (F.is_mis_marked s) (F.is_mis_made s) every_slot f.0 in
      let r2 = none_apart (λ x. is_beyond x || F.cannot_reserve s x) (F.cannot_wait s) (reserved_slots s.reservation) (sym (any_same _ _ (reserved_slots s.reservation) reserved_clauses) ∙ c4.1) in
      let r1 = none_apart is_beyond (F.cannot_reserve s) (reserved_slots s.reservation) r2.0 in
      let free : any_of (F.is_free s) s.queue ≡ false = sym free-plain ∙ q1.1 in
      let waits = waiting q1.0 free f.1 in
      record {
        tasks = sym (ap (ltb max_tasks) (count-plain s)) ∙ c1.0;
        queue = c1.1;
        batches = b1.0;
        beyond = q1.0;
        reserved-beyond = r1.0;
        free = free;
        once = q2.1;
        marks = m.0;
        reserves = r1.1;
        made = m.1;
        asks = no_member (F.asks_nothing s) s.queue (λ x y. (neither _ (F.cannot_wait s x) (waits x y)).0);
        waits = no_member (F.cannot_wait s) s.queue (λ x y. (neither (F.asks_nothing s x) _ (waits x y)).1);
        reserved-waits = r2.1;
        closed = c5.1;
        sizes = b1.1;
        sum = b2.1;
      }
    where
      waiting : any_of is_beyond s.queue ≡ false → any_of (F.is_free s) s.queue ≡ false → any_of named every_slot ≡ false
          → (x : Slot) → member x s.queue ≡ true → (F.asks_nothing s x || F.cannot_wait s x) ≡ false
      waiting b f w x m =
          let l = leb-false slot_count x.0 (member_fails is_beyond s.queue b x m) in
          let u = not-false (S.in_use x s) (member_fails (F.is_free s) s.queue f x m) in
          and_other (S.in_use x s) _ (and_other (member x s.queue) _ (slot_fails named slot_count 0 w x (omega arith) (omega arith)) m) u

  -- row 14, of a state and of its parts
  pub broken_split : broken s ≡ broken_plain p || bad_batches (S.stock s) s.permits.batches
  broken_split = same_test (broken s) _ (λ e. grouped (clauses s e)) (λ e. unbroken s (ungrouped e))

pub broken-whole : (p : Plain) (w : Times) → broken (whole p w) ≡ broken_plain p || bad_batches p.stock w.batches
unfolding whole
broken-whole p w = broken_split (whole p w) ∙ ap (λ (r : Plain). broken_plain r || bad_batches p.stock w.batches) (forget-whole p w)
