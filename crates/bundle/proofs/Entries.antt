-- Scripts by their names, their lengths and their bodies in one stretch.
use Prim.Native.Nat.{ℕ, zero, suc, ◌+◌, ◌*◌, ◌≤◌}
use native.Mathlib.Omega.{arith}
use mathlib.Core.Path.{◌≡◌, refl, ap, sym, ◌∙◌}
use mathlib.Core.Bool.{true}
use mathlib.Core.List.{List, [], ◌∷◌, ◌++◌}
use lib.ListN.{length, take, drop, length-append, length-drop, take-append-drop}
use lib.Seq.{length-take-le}
use Rattle.bundle_rules.specs.Bundled.{name_length, Entry, bodies, full_names, entry_names, entry_sizes}
use Rattle.bundle_rules.specs.Reading.{entries_of}
use Rattle.bundle.specs.Contents.{stretches, sum_of}

-- as many names as lengths
pub entries-number : (ms : List (List ℕ)) (ls bs : List ℕ) → length ms ≡ length ls → length (entries_of ms ls bs) ≡ length ms
unfolding entries_of
entries-number [] ls bs e = refl
entries-number (m ∷ ms) [] bs e = absurd (omega arith)
entries-number (m ∷ ms) (l ∷ ls) bs e = ap suc (entries-number ms ls (drop l bs) (omega arith))

pub entries-names : (ms : List (List ℕ)) (ls bs : List ℕ) → length ms ≡ length ls → entry_names (entries_of ms ls bs) ≡ ms
unfolding entries_of entry_names
entries-names [] ls bs e = refl
entries-names (m ∷ ms) [] bs e = absurd (omega arith)
entries-names (m ∷ ms) (l ∷ ls) bs e = ap (λ (r : List (List ℕ)). m ∷ r) (entries-names ms ls (drop l bs) (omega arith))

-- and bodies that are long enough for the lengths
rest-long : (l : ℕ) (ls bs : List ℕ) → sum_of (l ∷ ls) ≤ length bs → sum_of ls ≤ length (drop l bs)
unfolding sum_of
rest-long l ls bs h = rw length-drop (omega arith)

first-long : (l : ℕ) (ls bs : List ℕ) → sum_of (l ∷ ls) ≤ length bs → length (take l bs) ≡ l
unfolding sum_of
first-long l ls bs h = length-take-le l bs (omega arith)

pub entries-sizes : (ms : List (List ℕ)) (ls bs : List ℕ) → length ms ≡ length ls → sum_of ls ≤ length bs → entry_sizes (entries_of ms ls bs) ≡ ls
unfolding entries_of entry_sizes
entries-sizes [] [] bs e h = refl
entries-sizes [] (l ∷ ls) bs e h = absurd (omega arith)
entries-sizes (m ∷ ms) [] bs e h = absurd (omega arith)
entries-sizes (m ∷ ms) (l ∷ ls) bs e h =
    rw (first-long l ls bs h) (ap (λ (r : List ℕ). l ∷ r) (entries-sizes ms ls (drop l bs) (omega arith) (rest-long l ls bs h)))

-- and bodies that are as long as the lengths say
rest-same : (l : ℕ) (ls bs : List ℕ) → sum_of (l ∷ ls) ≡ length bs → sum_of ls ≡ length (drop l bs)
unfolding sum_of
rest-same l ls bs h = rw length-drop (omega arith)

none_left : (bs : List ℕ) → sum_of [] ≡ length bs → [] ≡ bs
unfolding sum_of
none_left [] h = refl
none_left (b ∷ bs) h = absurd (omega arith)

pub entries-bodies : (ms : List (List ℕ)) (ls bs : List ℕ) → length ms ≡ length ls → sum_of ls ≡ length bs → bodies (entries_of ms ls bs) ≡ bs
unfolding entries_of bodies
entries-bodies [] [] bs e h = none_left bs h
entries-bodies [] (l ∷ ls) bs e h = absurd (omega arith)
entries-bodies (m ∷ ms) [] bs e h = absurd (omega arith)
entries-bodies (m ∷ ms) (l ∷ ls) bs e h =
    ap (λ (r : List ℕ). take l bs ++ r) (entries-bodies ms ls (drop l bs) (omega arith) (rest-same l ls bs h)) ∙ take-append-drop l bs

-- Names of 16 bytes, cut from one stretch.
pub stretches-number : (w n : ℕ) (s : List ℕ) → length (stretches w n s) ≡ n
unfolding stretches
stretches-number w zero s = refl
stretches-number w (suc n) s = ap suc (stretches-number w n (drop w s))

pub stretches-full : (n : ℕ) (s : List ℕ) → name_length * n ≤ length s → full_names (stretches name_length n s) ≡ true
unfolding stretches full_names
stretches-full zero s h = refl
stretches-full (suc n) s h =
    rw (length-take-le name_length s (omega arith)) (stretches-full n (drop name_length s) (rw length-drop (omega arith)))

-- The lengths of scripts.
pub sizes-number : (es : List Entry) → length (entry_sizes es) ≡ length es
unfolding entry_sizes
sizes-number [] = refl
sizes-number (e ∷ es) = ap suc (sizes-number es)

pub sizes-sum : (es : List Entry) → sum_of (entry_sizes es) ≡ length (bodies es)
unfolding entry_sizes bodies sum_of
sizes-sum [] = refl
sizes-sum (e ∷ es) = ap (λ (k : ℕ). length e.body + k) (sizes-sum es) ∙ sym (length-append e.body (bodies es))
