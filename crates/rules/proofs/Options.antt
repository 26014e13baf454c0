-- Options: what says something does not say nothing, and where something is said in lines or under a test.
use Rattle.std.specs.Prelude.{Option, None, Some, option_map}
use Rattle.std.proofs.lemmas.Option.{same_Some}
use Prim.Native.Nat.{ℕ}
use native.Mathlib.Omega.{arith}
use mathlib.Core.Path.{◌≡◌, refl}
use mathlib.Core.Bool.{Bool, true, false, cond}
use Rattle.rules.specs.Script.{◌>>=◌}

pub said-not : {A : Type 0} (o : Option A) (a : A) → o ≡ Some a → o ≡ None → ⊥
said-not o a e f = let z : ◌≡◌ {A = ℕ} 0 1 = cc in omega arith

-- where a `do` block says something, its first line does, and the rest with that
pub said_in : {A B X : Type 0} (o : Option A) (f : A → Option B) {b : B} → (o >>= f) ≡ Some b → ((a : A) → o ≡ Some a → f a ≡ Some b → X) → X
said_in None f {b} e then = absurd (said-not None b e refl)
said_in (Some a) f e then = then a refl e

-- a change to what the rest of a block says is one to what the block says
pub said_changed : {A B C : Type 0} (g : B → C) (o : Option A) (f : A → Option C) (h : A → Option B) → ((a : A) → f a ≡ option_map g (h a)) → (o >>= f) ≡ option_map g (o >>= h)
said_changed g None f h e = refl
said_changed g (Some a) f h e = e a

-- where something is said only under a test, the test holds
pub said_if : {A : Type 0} (t : Bool) (x a : A) → cond t (Some x) None ≡ Some a → (t ≡ true) × (x ≡ a)
said_if true x a e = (refl, same_Some x a e)
said_if false x a e = absurd (said-not None a e refl)
