-- The whole line, and that it is the rules' own.
use Rattle.std.specs.Prelude.{None, Some, is_some}
use Prim.Native.Nat.{ℕ, ◌+◌, ◌≤◌, ◌<◌}
use native.Mathlib.Omega.{arith}
use mathlib.Core.Path.{◌≡◌, refl, ◌∙◌}
use mathlib.Core.Bool.{Bool, true, false, cond}
use mathlib.Core.List.{List, [], ◌∷◌, append_assoc}
use lib.ListN.{length, length-take}
use Rattle.rules.specs.declared.Grant.{Grant}
use Rattle.rules.specs.declared.Slot.{Slot}
use Rattle.rules.specs.Steps.{Answer, Outcome}
use Rattle.rules.specs.Text.{space, line_feed, joined_by}
use Rattle.rules.specs.Script.{answer_text, grants_text, outcome_text}
use Rattle.splitting.specs.Split.{forget}
use Rattle.text.specs.Writing.{Appended}
use Rattle.text.proofs.Buffer.{appended_none}
use Rattle.queue.specs.View.{waiters_of}
use Rattle.head.specs.declared.Head.{Head}
use Rattle.head.specs.View.{plain_of}
use Rattle.printing.specs.declared.Counts.{Counts}
use Rattle.printing.specs.Printed.{counts_text, line_text, ShownBy}
use Rattle.printing.proofs.Chain.{together, Room, here, onward, joined}

-- piece by piece
pub line_pieces : (a : Answer) (c : Counts) (gs : List Grant) → together (answer_text a ∷ (space ∷ []) ∷ counts_text c ∷ grants_text gs ∷ (line_feed ∷ []) ∷ []) ≡ line_text a c gs
unfolding joined_by
line_pieces a c gs = simp append_assoc

module _ (old : List ℕ) (at : ℕ) (a : Answer) (c : Counts) (gs : List Grant) (room : at + length (line_text a c gs) ≤ length old) where
  line-room : Room old at (answer_text a ∷ (space ∷ []) ∷ counts_text c ∷ grants_text gs ∷ (line_feed ∷ []) ∷ [])
  line-room = record { fits = rw (line_pieces a c gs) room }

  pub room-answer : at + length (answer_text a) ≤ length old
  room-answer = here line-room

  module _ (m₁ : List ℕ) (p₁ : ℕ) (w₁ : Appended old at (answer_text a) m₁ p₁) where
    pub room-blank : p₁ + 1 ≤ length m₁
    room-blank = here (onward line-room w₁)

    module _ (m₂ : List ℕ) (p₂ : ℕ) (w₂ : Appended m₁ p₁ (space ∷ []) m₂ p₂) where
      rest-room : Room m₂ p₂ (counts_text c ∷ grants_text gs ∷ (line_feed ∷ []) ∷ [])
      rest-room = onward (onward line-room w₁) w₂

      pub room-counts : p₂ + length (counts_text c) ≤ length m₂
      room-counts = here rest-room

      module _ (m₃ : List ℕ) (p₃ : ℕ) (w₃ : Appended m₂ p₂ (counts_text c) m₃ p₃) where
        pub room-grants : p₃ + length (grants_text gs) ≤ length m₃
        room-grants = here (onward rest-room w₃)

        module _ (m₄ : List ℕ) (p₄ : ℕ) (w₄ : Appended m₃ p₃ (grants_text gs) m₄ p₄) where
          end-room : Room m₄ p₄ ((line_feed ∷ []) ∷ [])
          end-room = onward (onward rest-room w₃) w₄

          pub room-end : p₄ + 1 ≤ length m₄
          room-end = here end-room

          pub line_written : (new : List ℕ) (r : ℕ) → Appended m₄ p₄ (line_feed ∷ []) new r → Appended old at (line_text a c gs) new r
          line_written new r w₅ =
              rw (← line_pieces a c gs)
              (joined line-room w₁
              (joined (onward line-room w₁) w₂
              (joined rest-room w₃
              (joined (onward rest-room w₃) w₄
              (joined end-room w₅ (appended_none new r))))))

-- The line of an outcome, from what the code has of it.
pub outcome-line : (o : Outcome) (c : Counts) → ShownBy c (forget o.state) → line_text o.answer c o.grants ≡ outcome_text o
unfolding outcome_text
outcome-line o c h = rw (h.available, h.stock, h.closed, h.queued)

-- What a head shows: no slot and no task.
pub head_shown : (h : Head) (c : Counts) → c.available ≡ cond (is_some h.reservation) 0 h.stock → c.stock ≡ h.stock → c.closed ≡ h.closed → c.queued ≡ length (waiters_of h.waiters)
    → (slots tasks : List ℕ) → ShownBy c (plain_of h slots tasks)
head_shown h c a b d e slots tasks =
    record { available = a; stock = b; closed = d; queued = e }

-- A queue is no longer than its array.
pub queued-fits : (h : Head) (n : ℕ) → length h.waiters.slots ≡ 32 → n ≡ length (waiters_of h.waiters) → n < 4294967296
unfolding waiters_of
queued-fits h n e q = omega (arith, q, e, length-take h.waiters.len h.waiters.slots)
