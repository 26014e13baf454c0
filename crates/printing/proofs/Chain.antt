-- Texts written one behind the other: where the whole has room, each has.
use Prim.Native.Nat.{ℕ, ◌+◌, ◌≤◌, ◌<◌}
use native.Mathlib.Omega.{arith}
use mathlib.Core.Path.{◌≡◌}
use mathlib.Core.List.{List, [], ◌∷◌, ◌++◌, append_assoc, append-nil}
use borrow.Author.Tests.{lt-ltb, le-ltb}
use lib.ListN.{length, length-append}
use Rattle.rules.specs.declared.Slot.{Slot}
use Rattle.rules.specs.Text.{space, comma, digits}
use Rattle.rules.specs.Script.{answer_text, closed_text, taker_text}
use Rattle.text.specs.Writing.{Appended}
use Rattle.text.proofs.Buffer.{appended_none, appended_length, appended_then}
use Rattle.replies.specs.declared.Refusal.{Refusal}
use Rattle.replies.specs.declared.Reply.{Reply}
use Rattle.replies.specs.declared.Reply.TheVariants.{Made, Refused}
use Rattle.replies.specs.Answers.{number_of, answer_of}
use Rattle.words.specs.View.{taker_of}
use Rattle.printing.specs.declared.Counts.{Counts}
use Rattle.printing.specs.Printed.{counts_text}

-- some texts, one behind the other
abbrev pub together : List (List ℕ) → List ℕ
together [] = []
together (xs ∷ rest) = xs ++ together rest

pub record Room (old : List ℕ) (at : ℕ) (texts : List (List ℕ)) : Type 0 where
  pub fits : at + length (together texts) ≤ length old

pub pair : (xs ys : List ℕ) {old : List ℕ} {at : ℕ} → at + length (xs ++ ys) ≤ length old → Room old at (xs ∷ ys ∷ [])
pair xs ys room = record { fits = rw (append-nil ys) room }

module _ {old : List ℕ} {at : ℕ} {xs : List ℕ} {rest : List (List ℕ)} (room : Room old at (xs ∷ rest)) where
  pub here : at + length xs ≤ length old
  here = omega (arith, room.fits, length-append xs (together rest))

  module _ {mid : List ℕ} {p : ℕ} (a : Appended old at xs mid p) where
    pub onward : Room mid p rest
    onward = record { fits = omega (arith, room.fits, length-append xs (together rest), a.end, appended_length a here) }

    pub joined : {new : List ℕ} {r : ℕ} → Appended mid p (together rest) new r → Appended old at (together (xs ∷ rest)) new r
    joined b = appended_then a here b

-- a number and a space
module _ (old : List ℕ) (at n : ℕ) (room : at + length (digits n ++ space ∷ []) ≤ length old) where
  field_room : Room old at (digits n ∷ (space ∷ []) ∷ [])
  field_room = pair (digits n) (space ∷ []) room

  pub room-number : at + length (digits n) ≤ length old
  room-number = here field_room

  module _ (mid : List ℕ) (p : ℕ) (a : Appended old at (digits n) mid p) where
    pub room-space : p + 1 ≤ length mid
    room-space = here (onward field_room a)

    pub field_written : (new : List ℕ) (r : ℕ) → Appended mid p (space ∷ []) new r → Appended old at (digits n ++ space ∷ []) new r
    field_written new r b = appended_then a room-number b

-- available, stock, closed and queue length
pub counts_pieces : (c : Counts)
    → together ((digits c.available ++ space ∷ []) ∷ (digits c.stock ++ space ∷ []) ∷ (closed_text c.closed ++ space ∷ []) ∷ (digits c.queued ++ space ∷ []) ∷ [])
    ≡ counts_text c
counts_pieces c = simp append_assoc

module _ (old : List ℕ) (at : ℕ) (c : Counts) (room : at + length (counts_text c) ≤ length old) where
  counts-room : Room old at ((digits c.available ++ space ∷ []) ∷ (digits c.stock ++ space ∷ []) ∷ (closed_text c.closed ++ space ∷ []) ∷ (digits c.queued ++ space ∷ []) ∷ [])
  counts-room = record { fits = rw (counts_pieces c) room }

  pub room-available : at + length (digits c.available ++ space ∷ []) ≤ length old
  room-available = here counts-room

  module _ (m₁ : List ℕ) (p₁ : ℕ) (w₁ : Appended old at (digits c.available ++ space ∷ []) m₁ p₁) where
    pub room-stock : p₁ + length (digits c.stock ++ space ∷ []) ≤ length m₁
    room-stock = here (onward counts-room w₁)

    module _ (m₂ : List ℕ) (p₂ : ℕ) (w₂ : Appended m₁ p₁ (digits c.stock ++ space ∷ []) m₂ p₂) (n : ℕ) (e : digits n ≡ closed_text c.closed) where
      pub room-closed : p₂ + length (digits n ++ space ∷ []) ≤ length m₂
      room-closed = rw e (here (onward (onward counts-room w₁) w₂))

      module _ (m₃ : List ℕ) (p₃ : ℕ) (w₃ : Appended m₂ p₂ (digits n ++ space ∷ []) m₃ p₃) where
        closed_written : Appended m₂ p₂ (closed_text c.closed ++ space ∷ []) m₃ p₃
        closed_written = rw e at w₃

        last-room : Room m₃ p₃ ((digits c.queued ++ space ∷ []) ∷ [])
        last-room = onward (onward (onward counts-room w₁) w₂) closed_written

        pub room-queued : p₃ + length (digits c.queued ++ space ∷ []) ≤ length m₃
        room-queued = here last-room

        pub counts_written : (new : List ℕ) (r : ℕ) → Appended m₃ p₃ (digits c.queued ++ space ∷ []) new r → Appended old at (counts_text c) new r
        counts_written new r w₄ =
            rw (← counts_pieces c)
            (joined counts-room w₁
            (joined (onward counts-room w₁) w₂
            (joined (onward (onward counts-room w₁) w₂) closed_written
            (joined last-room w₄ (appended_none new r)))))

-- a word, a slot, and a refusal
module _ (old : List ℕ) (at : ℕ) (a : Reply) (room : at + length (answer_text (answer_of a)) ≤ length old) where
  module _ (k : Reply) (w : List ℕ) (e : a ≡ k) (q : w ≡ answer_text (answer_of k)) where
    pub room_word : at + length w ≤ length old
    room_word = rw (q, ← e) room

    pub word_written : (new : List ℕ) (r : ℕ) → Appended old at w new r → Appended old at (answer_text (answer_of a)) new r
    word_written new r p = rw (e, ← q) p

  module _ (x : Slot) (e : a ≡ Made x) where
    made-room : at + length (115 ∷ [] ++ digits x.0) ≤ length old
    made-room = rw e at room

    pub room-made : at + 1 ≤ length old
    room-made = omega (arith, made-room)

    module _ (mid : List ℕ) (p : ℕ) (w : Appended old at (115 ∷ []) mid p) where
      pub room-slot : p + length (digits x.0) ≤ length mid
      room-slot = here (onward (pair (115 ∷ []) (digits x.0) made-room) w)

      pub made_written : (new : List ℕ) (r : ℕ) → Appended mid p (digits x.0) new r → Appended old at (answer_text (answer_of a)) new r
      made_written new r d = rw e (appended_then w room-made d)

  module _ (f : Refusal) (e : a ≡ Refused f) where
    refused-room : at + length (114 ∷ [] ++ digits (number_of f)) ≤ length old
    refused-room = rw e at room

    pub room-refused : at + 1 ≤ length old
    room-refused = omega (arith, refused-room)

    module _ (n : ℕ) (q : n ≡ number_of f) (mid : List ℕ) (p : ℕ) (w : Appended old at (114 ∷ []) mid p) where
      pub room-refusal : p + length (digits n) ≤ length mid
      room-refusal = rw q (here (onward (pair (114 ∷ []) (digits (number_of f)) refused-room) w))

      pub refused_written : (new : List ℕ) (r : ℕ) → Appended mid p (digits n) new r → Appended old at (answer_text (answer_of a)) new r
      refused_written new r d = rw (e, ← q) (appended_then w room-refused d)

-- a taker, and one behind a comma
module _ (old : List ℕ) (at w : ℕ) where
  module _ (h : w < 256) where
    pub room-slot-taker : at + length (taker_text (taker_of w)) ≤ length old → at + length (digits w) ≤ length old
    unfolding taker_of
    room-slot-taker room = rw (lt-ltb w 256 h) at room

    pub slot_written : (new : List ℕ) (r : ℕ) → Appended old at (digits w) new r → Appended old at (taker_text (taker_of w)) new r
    unfolding taker_of
    slot_written new r a = rw (lt-ltb w 256 h) a

  module _ (h : 256 ≤ w) where
    pub room_try : at + length (taker_text (taker_of w)) ≤ length old → at + 1 ≤ length old
    unfolding taker_of
    room_try room = rw (le-ltb w 256 h) at room

    pub try_written : (new : List ℕ) (r : ℕ) → Appended old at (116 ∷ []) new r → Appended old at (taker_text (taker_of w)) new r
    unfolding taker_of
    try_written new r a = rw (le-ltb w 256 h) a

  module _ (room : at + length (comma ∷ taker_text (taker_of w)) ≤ length old) (mid : List ℕ) (p : ℕ) (a : Appended old at (comma ∷ []) mid p) where
    next-room : Room old at ((comma ∷ []) ∷ taker_text (taker_of w) ∷ [])
    next-room = pair (comma ∷ []) (taker_text (taker_of w)) room

    pub room-behind : p + length (taker_text (taker_of w)) ≤ length mid
    room-behind = here (onward next-room a)

    pub next_written : (new : List ℕ) (r : ℕ) → Appended mid p (taker_text (taker_of w)) new r → Appended old at (comma ∷ taker_text (taker_of w)) new r
    next_written new r b = appended_then a (here next-room) b
