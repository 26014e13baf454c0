-- The other parts of row 14: each answer, from the tests that led to it.
use Rattle.std.specs.Prelude.{Option, None, Some, is_some}
use Prim.Native.Nat.{ℕ, zero, suc, ◌≤◌, ◌<◌}
use native.Mathlib.Omega.{arith}
use mathlib.Core.Path.{◌≡◌, refl, sym, ap, ◌∙◌}
use mathlib.Core.Bool.{Bool, true, false, cond, not, ◌||◌}
use mathlib.Core.List.{List}
use borrow.Author.Tests.{le-leb, lt-leb}
use lib.Dec.{eqb}
use lib.ListN.{length, get_or, replicate}
use Rattle.rules.specs.Sizes.{slot_count}
use Rattle.rules.specs.Broken.{any_of, reserved_slots}
use Rattle.splitting.specs.Plain.{Request as RequestRule}
use Rattle.splitting.specs.Broken.{cannot_wait}
use Rattle.rules.specs.declared.Slot.{Slot}
use Rattle.queue.specs.declared.Waiters.{Waiters}
use Rattle.queue.specs.View.{waiters_of}
use Rattle.queue.proofs.Lists.{waiters-length}
use Rattle.records.specs.declared.Request.{Request}
use Rattle.records.specs.View.{request_of, Stands}
use Rattle.broken.specs.Weights.{weights, sum_from, Marks, broken_slots}
use Rattle.broken.specs.Broken.{misreserved}
use Rattle.broken.proofs.Weighing.{weighed}

-- ---- the slots and the queue
pub none_seen : (n k : ℕ) → get_or (replicate n false) k false ≡ false
none_seen zero k = refl
none_seen (suc n) zero = refl
none_seen (suc n) (suc k) = none_seen n k

pub slots_judged : (n : ℕ) (fair : Bool) (w : List ℕ) (v : Waiters) (seen : List Bool) (r : ℕ) → length v.slots ≡ 32 → v.len ≤ slot_count
    → Marks seen (waiters_of v) → r ≡ sum_from (weights n fair seen w) slot_count 0 → not (eqb r v.len) ≡ broken_slots n fair (waiters_of v) w
slots_judged n fair w v seen r l h m e =
    let q = waiters-length v l h in
    ap (λ (k : ℕ). not (eqb k v.len)) e
    ∙ sym (ap (λ (k : ℕ). not (eqb (sum_from (weights n fair seen w) slot_count 0) k)) q)
    ∙ weighed n fair w (waiters_of v) seen m (omega arith)

-- ---- the reserved request
abbrev unable : ℕ → Request → Bool
unable n r = not r.used || r.queued || not r.ask.reserving || cannot_wait n (request_of r)

module _ (n : ℕ) (rs : List (Option RequestRule)) (v : Option Slot) where
  pub unreserved : v ≡ None → false ≡ any_of (misreserved n rs) (reserved_slots v)
  unfolding any_of
  unreserved e = rw e

  module _ (x : Slot) (m : v ≡ Some x) where
    one : any_of (misreserved n rs) (reserved_slots v) ≡ misreserved n rs x || false
    unfolding any_of
    one = rw m

    pub reserved-beyond : 32 ≤ x.0 → true ≡ any_of (misreserved n rs) (reserved_slots v)
    reserved-beyond h = sym (one ∙ rw (le-leb 32 x.0 h))

    pub reserved_judged : (b : Bool) (r : Request) → x.0 < 32 → Stands r (get_or rs x.0 None) → b ≡ unable n r
        → b ≡ any_of (misreserved n rs) (reserved_slots v)
    reserved_judged b r h s e = e ∙ sym (one ∙ rw (lt-leb 32 x.0 h, some_used, ← s.view) (or-false _))
      where
        some_used : is_some (get_or rs x.0 None) ≡ r.used
        some_used = rw (← s.used) (go r.used)
          where
            go : (b : Bool) → is_some (cond b (Some (request_of r)) None) ≡ b
            go true = refl
            go false = refl

        or-false : (b : Bool) → b || false ≡ b
        or-false true = refl
        or-false false = refl
