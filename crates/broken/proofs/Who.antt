-- What the test of all but the batches comes to, once the counts are within their arrays: its parts, in the order in which the code looks.
use Rattle.std.specs.Prelude.{Option, None, is_some}
use Prim.Native.Nat.{ℕ, ◌≤◌, ◌<◌}
use native.Mathlib.Omega.{arith}
use mathlib.Core.Path.{◌≡◌, refl, sym, ap, ◌∙◌}
use mathlib.Core.Bool.{Bool, true, false, not, ◌&&◌, ◌||◌}
use mathlib.Core.List.{List, [], ◌∷◌}
use borrow.Author.Tests.{lt-ltb, le-ltb, leb-true}
use lib.Dec.{ltb}
use lib.ListN.{length, get_or}
use Rattle.rules.specs.declared.Slot.{Slot}
use Rattle.rules.specs.Sizes.{max_tasks, slot_count}
use Rattle.rules.specs.State.{is_strict}
use Rattle.rules.specs.Broken.{any_of, member, twice, every_slot, reserved_slots, is_beyond, non_empty}
use Rattle.splitting.specs.Plain.{Request as RequestRule}
use Rattle.splitting.specs.Broken.{misfits, broken_plain}
use Rattle.splitting.proofs.Broken.{any_same}
use Rattle.tables.specs.Table.{row}
use Rattle.queue.specs.View.{waiters_of}
use Rattle.queue.proofs.Lists.{waiters-length}
use Rattle.words.specs.View.{request_words, slots_of, tasks_of, row_stands}
use Rattle.words.proofs.Slots.{slot_past}
use Rattle.words.proofs.Tasks.{length-tasks}
use Rattle.head.specs.declared.Head.{Head}
use Rattle.broken.specs.Weights.{is_free_in, broken_slots}
use Rattle.broken.specs.Broken.{stray_slots, stray_tasks, misreserved, broken_who}

module _ {A : Type 0} where
  pub any_either : (p q : A → Bool) (l : List A) → any_of (λ x. p x || q x) l ≡ any_of p l || any_of q l
  unfolding any_of
  any_either p q [] = refl
  any_either p q (x ∷ l) = rw (any_either p q l) (go (p x) (q x) (any_of p l) (any_of q l))
    where
      go : (a b c d : Bool) → (a || b) || (c || d) ≡ (a || c) || (b || d)
      go true b c d = refl
      go false true true d = refl
      go false true false d = refl
      go false false c d = refl

  -- a test that another one covers
  any_covered : (p q : A → Bool) (l : List A) → ((x : A) → p x || q x ≡ q x) → any_of p l || any_of q l ≡ any_of q l
  any_covered p q l f = sym (any_either p q l) ∙ any_same (λ x. p x || q x) q l f

-- a slot beyond the others is free
beyond-free : (w : List ℕ) (x : Slot) → is_beyond x || is_free_in w x ≡ is_free_in w x
beyond-free w x = go (is_beyond x) refl
  where
    go : (b : Bool) → is_beyond x ≡ b → b || is_free_in w x ≡ is_free_in w x
    go true e = sym (ap (λ (o : Option RequestRule). not (is_some o)) (slot_past w x.0 (leb-true slot_count x.0 e)))
    go false e = refl

some_queued : (q : List Slot) → non_empty q ≡ ltb 0 (length q)
some_queued [] = sym (le-ltb 0 0 (omega arith))
some_queued (x ∷ q) = sym (lt-ltb 0 (length (x ∷ q)) (omega arith))

-- stray slots and tasks, the queue, misfits, the reservation and closing, each in its turn
in_turn : (s t q m r c : Bool) → ((((false || false) || s) || t) || (((((false || false) || q) || m) || r) || c)) ≡ t || (((s || m) || q) || (r || c))
in_turn true true q m r c = refl
in_turn true false q m r c = refl
in_turn false true q m r c = refl
in_turn false false true true r c = refl
in_turn false false true false r c = refl
in_turn false false false true r c = refl
in_turn false false false false r c = refl

module _ (h : Head) (ss ts : List ℕ) where
  abbrev n : ℕ
  n = h.tasks

  abbrev q : List Slot
  q = waiters_of h.waiters

  -- what the slots and the queue, the reservation, and whether it is closed have to say
  abbrev pub waiting : Bool
  waiting = broken_slots h.tasks (is_strict h.fairness) (waiters_of h.waiters) ss

  abbrev pub reserving : Bool
  reserving = any_of (misreserved h.tasks (slots_of ss)) (reserved_slots h.reservation)

  abbrev pub closing : Bool
  closing = h.closed && (ltb 0 h.waiters.len || is_some h.reservation)

  pub past_tasks : max_tasks < h.tasks → true ≡ broken_who h ss ts
  unfolding broken_who
  past_tasks l = rw (lt-ltb max_tasks h.tasks l)

  pub past_queue : h.tasks ≤ max_tasks → slot_count < h.waiters.len → true ≡ broken_who h ss ts
  unfolding broken_who
  past_queue t l = rw (le-ltb max_tasks h.tasks t, lt-ltb slot_count h.waiters.len l)

  module _ (t : h.tasks ≤ max_tasks) (l : h.waiters.len ≤ slot_count) (places : length h.waiters.slots ≡ 32) where
    long : length q ≡ h.waiters.len
    long = waiters-length h.waiters places l

    abbrev misfit : ℕ → Slot → Bool
    misfit k x = misfits k (is_strict h.fairness) (member x q) (get_or (slots_of ss) x.0 None)

    abbrev stray : Slot → Bool
    stray x = not (row_stands (row request_words ss x.0))

    pub decided : broken_who h ss ts ≡ stray_tasks h.tasks ts || (waiting || (reserving || closing))
    unfolding broken_who broken_plain broken_slots
    decided =
        (λ i.
        (((le-ltb max_tasks n t i || le-ltb slot_count h.waiters.len l i) || stray_slots ss) || stray_tasks n ts)
        || (((((tasks i || queue i) || named i) || any_of (misfit (count i)) every_slot) || any_of (misreserved (count i) (slots_of ss)) (reserved_slots h.reservation)) || (h.closed && (some_waits i || is_some h.reservation))))
        ∙ in_turn (stray_slots ss) (stray_tasks n ts) (any_of (is_free_in ss) q || twice q) (any_of (misfit n) every_slot) reserving closing
        ∙ ap (λ (b : Bool). stray_tasks n ts || ((b || (any_of (is_free_in ss) q || twice q)) || (reserving || closing))) (sym (any_either stray (misfit n) every_slot))
      where
        count : length (tasks_of n ts) ≡ n
        count = length-tasks ts n

        tasks : ltb max_tasks (length (tasks_of n ts)) ≡ false
        tasks = ap (ltb max_tasks) count ∙ le-ltb max_tasks n t

        queue : ltb slot_count (length q) ≡ false
        queue = ap (ltb slot_count) long ∙ le-ltb slot_count h.waiters.len l

        named : (any_of is_beyond q || any_of (is_free_in ss) q) || twice q ≡ any_of (is_free_in ss) q || twice q
        named = ap (λ (b : Bool). b || twice q) (any_covered is_beyond (is_free_in ss) q (beyond-free ss))

        some_waits : non_empty q ≡ ltb 0 h.waiters.len
        some_waits = some_queued q ∙ ap (ltb 0) long

    -- the answer, from the parts that were asked
    pub tasks_wrong : (b : Bool) → b ≡ stray_tasks h.tasks ts → b ≡ true → true ≡ broken_who h ss ts
    tasks_wrong b e y = sym (decided ∙ rw (← e, y))

    module _ (b : Bool) (e : b ≡ stray_tasks h.tasks ts) (no : b ≡ false) (fair d : Bool) (f : fair ≡ is_strict h.fairness) (g : d ≡ broken_slots h.tasks fair (waiters_of h.waiters) ss) where
      by_slots : broken_who h ss ts ≡ d || (reserving || closing)
      by_slots = decided ∙ rw (← e, no, ← f, ← g)

      pub slots_wrong : d ≡ true → true ≡ broken_who h ss ts
      slots_wrong y = sym (by_slots ∙ rw y)

      module _ (none-wrong : d ≡ false) (r : Bool) (k : r ≡ any_of (misreserved h.tasks (slots_of ss)) (reserved_slots h.reservation)) where
        by_reservation : broken_who h ss ts ≡ r || closing
        by_reservation = by_slots ∙ rw (none-wrong, ← k)

        pub reservation_wrong : r ≡ true → true ≡ broken_who h ss ts
        reservation_wrong y = sym (by_reservation ∙ rw y)

        pub closed_decides : (v : Bool) → v ≡ is_some h.reservation → (c : Bool) → r ≡ false → c ≡ (h.closed && (ltb 0 h.waiters.len || v)) → c ≡ broken_who h ss ts
        closed_decides v ev c y m = m ∙ ap (λ (v : Bool). h.closed && (ltb 0 h.waiters.len || v)) ev ∙ sym (by_reservation ∙ rw y)
