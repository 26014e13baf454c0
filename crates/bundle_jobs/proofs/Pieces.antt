-- The pieces of a text, written one behind the other.
use Prim.Native.Nat.{ℕ, ◌+◌, ◌-◌, ◌≤◌}
use native.Mathlib.Omega.{arith}
use mathlib.Core.Path.{◌≡◌, ap, sym, ◌∙◌}
use mathlib.Core.List.{List, [], ◌∷◌, ◌++◌, append-nil}
use lib.ListN.{length, take, drop, length-append, length-drop, drop_of_length-le}
use lib.Seq.{length-take-le, drop-drop, take_all}
use Rattle.rules.specs.Text.{before, digits}
use Rattle.rules.specs.Script.{printed}
use Rattle.rules.proofs.Parts.{before-take}
use Rattle.text.specs.Reading.{Found}
use Rattle.text.specs.Writing.{Appended}
use Rattle.text.proofs.Buffer.{appended_then}
use Rattle.trace.specs.Running.{room, Prints}
use Rattle.bundle_rules.specs.declared.Refusal.{Refusal}
use Rattle.bundle_rules.specs.Reading.{number_of}
use Rattle.bundle_jobs.specs.Printed.{refusal_text, heading_text, field_text, row_text}
use Rattle.bundle_jobs.specs.Placing.{script_room}

-- A name, up to its first zero byte.
module _ {name : List ℕ} {e : ℕ} (f : Found name 0 0 e) where
  pub name-counted : e ≡ length (take e name)
  name-counted = sym (length-take-le e name f.within)

  taken : take e name ≡ before 0 name
  taken = let n : e ≡ length (before 0 name) = omega (arith, f.place) in rw n (before-take 0 name)

  pub name-room : (old : List ℕ) (at : ℕ) → at + length (before 0 name) ≤ length old → at + length (take e name) ≤ length old
  name-room old at h = omega (arith, ap length taken)

  pub name_put : {old : List ℕ} {at : ℕ} {new : List ℕ} {r : ℕ} → Appended old at (take e name) new r → Appended old at (before 0 name) new r
  name_put a = rw taken at a

-- Two pieces, and three.
module _ {old : List ℕ} {at : ℕ} {xs m : List ℕ} {p : ℕ} (a : Appended old at xs m p) (ys : List ℕ) (h : at + length (xs ++ ys) ≤ length old) where
  pub two_put : {new : List ℕ} {r : ℕ} → Appended m p ys new r → Appended old at (xs ++ ys) new r
  two_put b = appended_then a (omega (arith, length-append xs ys)) b

module _ {old : List ℕ} {at : ℕ} {xs m : List ℕ} {p : ℕ} {ys m' : List ℕ} {q : ℕ} (a : Appended old at xs m p) (b : Appended m p ys m' q) where
  pub three_put : (zs : List ℕ) {new : List ℕ} {r : ℕ} → at + length (xs ++ ys ++ zs) ≤ length old → Appended m' q zs new r → Appended old at (xs ++ ys ++ zs) new r
  three_put zs h c =
      let l : length (xs ++ ys ++ zs) ≡ length (xs ++ ys) + length zs = length-append (xs ++ ys) zs in
      two_put (two_put a ys (omega arith) b) zs h c

-- A heading.
pub heading_length : (name : List ℕ) → length (heading_text name) ≡ 3 + length (before 0 name)
heading_length name = rw length-append (omega arith)

module _ (name old : List ℕ) (at : ℕ) (h : at + length (heading_text name) ≤ length old) where
  module _ {m : List ℕ} {p : ℕ} (a : Appended old at (62 ∷ 32 ∷ []) m p) (k : length m ≡ length old) where
    pub heading_name : p + length (before 0 name) ≤ length m
    heading_name = omega (arith, a.end, heading_length name)

    module _ {m' : List ℕ} {q : ℕ} (b : Appended m p (before 0 name) m' q) where
      pub heading_end : length m' ≡ length m → q + 1 ≤ length m'
      heading_end l = omega (arith, a.end, b.end, heading_length name)

      pub heading_put : {new : List ℕ} {r : ℕ} → Appended m' q (10 ∷ []) new r → Appended old at (heading_text name) new r
      heading_put c = three_put a b (10 ∷ []) h c

-- A refusal.
refusal-length : (g : Refusal) (n : ℕ) → n ≡ number_of g → length (refusal_text g) ≡ 2 + length (digits n)
refusal-length g n e = rw (e, length-append) (omega arith)

module _ (g : Refusal) (old : List ℕ) (n : ℕ) (h : length (refusal_text g) ≤ length old) (e : n ≡ number_of g) where
  module _ {m : List ℕ} {p : ℕ} (a : Appended old 0 (114 ∷ []) m p) (k : length m ≡ length old) where
    pub refusal-number : p + length (digits n) ≤ length m
    refusal-number = omega (arith, a.end, refusal-length g n e)

    module _ {m' : List ℕ} {q : ℕ} (b : Appended m p (digits n) m' q) where
      pub refusal-end : length m' ≡ length m → q + 1 ≤ length m'
      refusal-end l = omega (arith, a.end, b.end, refusal-length g n e)

      pub refusal_put : {new : List ℕ} {r : ℕ} → Appended m' q (10 ∷ []) new r → Appended old 0 (refusal_text g) new r
      refusal_put c = rw (← e) (three_put a b (10 ∷ []) (omega (arith, refusal-length g n e, length-append (114 ∷ digits n) (10 ∷ []))) c)

-- A line of the list.
pub field_put : (old : List ℕ) (at n : ℕ) {m : List ℕ} {p : ℕ} {new : List ℕ} {r : ℕ} → at + length (field_text n) ≤ length old → Appended old at (32 ∷ []) m p → Appended m p (digits n) new r → Appended old at (field_text n) new r
field_put old at n h a b = two_put a (digits n) h b

module _ (name : List ℕ) (o z : ℕ) where
  abbrev line_of : List ℕ
  line_of = row_text (record { name = name; offset = o; size = z })

  pub row-length : length line_of ≡ length (before 0 name) + length (field_text o) + length (field_text z) + 1
  row-length = rw (length-append (before 0 name ++ field_text o ++ field_text z) (10 ∷ []), length-append (before 0 name ++ field_text o) (field_text z), length-append (before 0 name) (field_text o))

module _ (name old : List ℕ) (at o z : ℕ) (h : at + length (row_text (record { name = name; offset = o; size = z })) ≤ length old) where
  pub row-name : at + length (before 0 name) ≤ length old
  row-name = omega (arith, row-length name o z)

  module _ {m : List ℕ} {p : ℕ} (a : Appended old at (before 0 name) m p) (k : length m ≡ length old) where
    pub row-offset : p + length (field_text o) ≤ length m
    row-offset = omega (arith, a.end, row-length name o z)

    module _ {m' : List ℕ} {q : ℕ} (b : Appended m p (field_text o) m' q) (l : length m' ≡ length m) where
      pub row-size : q + length (field_text z) ≤ length m'
      row-size = omega (arith, a.end, b.end, row-length name o z)

      module _ {m'' : List ℕ} {t : ℕ} (c : Appended m' q (field_text z) m'' t) where
        pub row-end : length m'' ≡ length m' → t + 1 ≤ length m''
        row-end j = omega (arith, a.end, b.end, c.end, row-length name o z)

        pub row_put : {new : List ℕ} {r : ℕ} → Appended m'' t (10 ∷ []) new r → Appended old at (row_text (record { name = name; offset = o; size = z })) new r
        row_put d =
            let l : length (before 0 name ++ field_text o ++ field_text z) ≡ length (before 0 name ++ field_text o) + length (field_text z) = length-append (before 0 name ++ field_text o) (field_text z) in
            two_put (three_put a b (field_text z) (omega (arith, row-length name o z, length-append (before 0 name) (field_text o))) c) (10 ∷ []) h d

-- What a script prints, written into a part of the buffer that has room for it.
module _ (body out part : List ℕ) (at e : ℕ) (h : at + room body ≤ length out) (i : e ≡ length out) (is : part ≡ take (e - at) (drop at out)) where
  all : part ≡ drop at out
  all = is ∙ take_all (e - at) (drop at out) (rw length-drop (omega arith))

  module _ (new : List ℕ) (r : ℕ) (p : Prints body part new r) where
    pub run_put : Appended out at (printed body) (take at out ++ (new ++ drop (e - at) (drop at out))) (at + r)
    run_put =
        let enough : room body ≤ length part = rw (all, length-drop) (omega arith) in
        let none : drop (e - at) (drop at out) ≡ [] = drop_of_length-le (drop at out) {i = e - at} (rw length-drop (omega arith)) in
        let behind : drop r part ≡ drop (at + r) out = rw all (drop-drop r at out) in
        record {
          end = omega (arith, p.count enough);
          whole = rw (none, append-nil new, ← behind) (ap (λ (l : List ℕ). take at out ++ l) (p.text enough));
        }

-- A script's heading, and what it prints.
module _ (name body old m : List ℕ) (at p : ℕ) (h : at + script_room name body ≤ length old) (a : Appended old at (heading_text name) m p) where
  pub script_put : {new : List ℕ} {r : ℕ} → Appended m p (printed body) new r → Appended old at (heading_text name ++ printed body) new r
  script_put b = appended_then a (omega arith) b
