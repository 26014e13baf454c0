-- What stands at a slot: before a change of it, after one, and beside one.
use Rattle.std.specs.Prelude.{Option, None, Some, option_map, is_some, unwrap_or}
use Prim.Native.Nat.{◌≤◌, ◌<◌}
use native.Mathlib.Omega.{arith}
use native.Mathlib.Decide.{dec_lt}
use mathlib.Core.Path.{◌≡◌, refl, sym, ap, ◌∙◌}
use mathlib.Core.Bool.{true, false, true≢false}
use mathlib.Core.List.{List}
use borrow.Author.Tests.{eqb-false}
use lib.ListN.{length, get_or, set, get_or-eq_default}
use lib.Seq.{get_or-set_same, get_or-set_other, set_out, set-set}
use Rattle.rules.specs.declared.Slot.{Slot}
use Rattle.rules.specs.Sizes.{slot_count}
use Rattle.rules.specs.Request.{Request, no_request}
use Rattle.rules.specs.State.{State, same_slot, in_use, request_at, alter_request, with_slots}
use Rattle.rules.proofs.Bools.{clash}
use Rattle.rules.proofs.Queues.{by_slot}

-- the request in a slot, or nothing
abbrev pub slot_at : Slot → State → Option Request
slot_at x s = get_or s.slots x.0 None

unused : (o : Option Request) → is_some o ≡ false → unwrap_or o no_request ≡ no_request
unused None e = refl
unused (Some r) e = absurd (true≢false e)

pub free-request : (x : Slot) (s : State) → in_use x s ≡ false → request_at x s ≡ no_request
free-request x s e = unused (slot_at x s) e

-- a slot past the last is not in use
pub past_unused : (x : Slot) (s : State) → length s.slots ≡ slot_count → slot_count ≤ x.0 → in_use x s ≡ false
past_unused x s n h = ap (λ (o : Option Request). is_some o) (get_or-eq_default s.slots None {n = x.0} (omega arith))

pub used-below : (x : Slot) (s : State) → length s.slots ≡ slot_count → in_use x s ≡ true → x.0 < slot_count
used-below x s n u = elim (dec_lt x.0 slot_count) [ yes l ↦ l | no l ↦ clash u (past_unused x s n (omega arith)) ]

-- A slot set, and every other slot.

pub slot-set : (x : Slot) (o : Option Request) (s : State) → x.0 < length s.slots → slot_at x (with_slots (set s.slots x.0 o) s) ≡ o
slot-set x o s h = get_or-set_same s.slots x.0 o None h

pub slot_beside : (x y : Slot) (o : Option Request) (s : State) → same_slot x y ≡ false → slot_at y (with_slots (set s.slots x.0 o) s) ≡ slot_at y s
slot_beside x y o s e = get_or-set_other s.slots x.0 y.0 o None (λ p. eqb-false x.0 y.0 e (sym p))

-- A request altered: where the slot is free it stays free.

pub slot-altered : (x : Slot) (f : Request → Request) (s : State) → slot_at x (alter_request x f s) ≡ option_map f (slot_at x s)
slot-altered x f s =
    elim (dec_lt x.0 (length s.slots)) [
      | yes l ↦ get_or-set_same s.slots x.0 _ None l
      | no l ↦
          ap (λ (rs : List (Option Request)). get_or rs x.0 None) (set_out s.slots x.0 _ (omega arith))
          ∙ get_or-eq_default s.slots None {n = x.0} (omega arith)
          ∙ sym (ap (λ (o : Option Request). option_map f o) (get_or-eq_default s.slots None {n = x.0} (omega arith)))
    ]

used-map : (f : Request → Request) (o : Option Request) → is_some o ≡ true → unwrap_or (option_map f o) no_request ≡ f (unwrap_or o no_request)
used-map f None u = clash u refl
used-map f (Some r) u = refl

pub request-altered : (x : Slot) (f : Request → Request) (s : State) → in_use x s ≡ true → request_at x (alter_request x f s) ≡ f (request_at x s)
request-altered x f s u = ap (λ (o : Option Request). unwrap_or o no_request) (slot-altered x f s) ∙ used-map f (slot_at x s) u

some_map : (f : Request → Request) (o : Option Request) → is_some (option_map f o) ≡ is_some o
some_map f None = refl
some_map f (Some r) = refl

pub used-altered : (x : Slot) (f : Request → Request) (s : State) → in_use x (alter_request x f s) ≡ in_use x s
used-altered x f s = ap (λ (o : Option Request). is_some o) (slot-altered x f s) ∙ some_map f (slot_at x s)

pub altered_beside : (x y : Slot) (f : Request → Request) (s : State) → same_slot x y ≡ false → slot_at y (alter_request x f s) ≡ slot_at y s
altered_beside x y f s e = slot_beside x y (option_map f (slot_at x s)) s e

map-twice : (f g : Request → Request) (o : Option Request) → option_map g (option_map f o) ≡ option_map (λ r. g (f r)) o
map-twice f g None = refl
map-twice f g (Some r) = refl

-- two changes of one request are one
pub alter_twice : (x : Slot) (f g : Request → Request) (s : State) → alter_request x g (alter_request x f s) ≡ alter_request x (λ r. g (f r)) s
alter_twice x f g s =
    ap (λ (rs : List (Option Request)). with_slots rs s)
    (set-set s.slots x.0 _ _
    ∙ ap (λ (o : Option Request). set s.slots x.0 o)
    (ap (λ (o : Option Request). option_map g o) (slot-altered x f s) ∙ map-twice f g (slot_at x s)))

-- what a change of a request leaves as it was
pub field_altered : {A : Type 0} (g : Request → A) (x : Slot) (f : Request → Request) (s : State)
    → ((r : Request) → g (f r) ≡ g r) → g (request_at x (alter_request x f s)) ≡ g (request_at x s)
field_altered g x f s h = ap (λ (o : Option Request). g (unwrap_or o no_request)) (slot-altered x f s) ∙ go (slot_at x s)
  where
    go : (o : Option Request) → g (unwrap_or (option_map f o) no_request) ≡ g (unwrap_or o no_request)
    go None = refl
    go (Some r) = h r

-- and what it makes so, where that holds of a free slot too
pub field_set : {A : Type 0} (g : Request → A) (v : A) (x : Slot) (f : Request → Request) (s : State)
    → ((r : Request) → g (f r) ≡ v) → g no_request ≡ v → g (request_at x (alter_request x f s)) ≡ v
field_set g v x f s h k = ap (λ (o : Option Request). g (unwrap_or o no_request)) (slot-altered x f s) ∙ go (slot_at x s)
  where
    go : (o : Option Request) → g (unwrap_or (option_map f o) no_request) ≡ v
    go None = k
    go (Some r) = h r

-- a change that keeps every ask
pub asks-altered : (x : Slot) (f : Request → Request) (s : State) → ((r : Request) → (f r).ask ≡ r.ask)
    → (y : Slot) → (request_at y (alter_request x f s)).ask ≡ (request_at y s).ask
asks-altered x f s h =
    by_slot (λ y. (request_at y (alter_request x f s)).ask ≡ (request_at y s).ask) x (field_altered (λ (r : Request). r.ask) x f s h)
    (λ y e. ap (λ (o : Option Request). (unwrap_or o no_request).ask) (altered_beside x y f s e))
