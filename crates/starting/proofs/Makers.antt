-- A start with a maker or without, and with the clocks that stand in words, or spawned ones.
use Rattle.std.specs.Prelude.{Result}
use Prim.Native.Nat.{ℕ, ◌≤◌}
use mathlib.Core.Path.{◌≡◌, sym, subst}
use mathlib.Core.List.{List}
use lib.ListN.{length, take}
use lib.Seq.{length-take-le}
use Rattle.rules.specs.Spawning.{spawned}
use Rattle.rules.specs.Runs.{start}
use Rattle.state.specs.declared.BatchSemaphore.{BatchSemaphore}
use Rattle.state.specs.View.{Words}
use Rattle.fresh.specs.declared.Refused.{Refused}
use Rattle.fresh.specs.Starting.{Gives}
use Rattle.script.specs.declared.First.{First}
use Rattle.script.specs.Opening.{start_said}
use Rattle.spawning.specs.Rows.{spawned_in}
use Rattle.reading.specs.Starts.{start_read, entries_of}
use Rattle.reading.proofs.Starts.{entries-few, same-spawned}

-- clocks that stand in words
entries-there : (k n : ℕ) (starts : List ℕ) → length starts ≡ 256 → n ≡ entries_of k → n ≤ length starts
entries-there k n starts l e = rw (l, e) (entries-few k)

pub entries-length : (k n : ℕ) (starts : List ℕ) → length starts ≡ 256 → n ≡ entries_of k → n ≡ length (take n starts)
entries-length k n starts l e = sym (length-take-le n starts (entries-there k n starts l e))

pub said_read : (a : First) (starts : List ℕ) (n : ℕ) (r : Result BatchSemaphore Refused) (w : Words) → n ≡ entries_of a.tasks → Gives r w (start (start_said a (take n starts))) → Gives r w (start (start_read a starts))
said_read a starts n r w e g = subst (λ (k : ℕ). Gives r w (start (start_said a (take k starts)))) e g

pub said-spawned : (a : First) (starts : List ℕ) (r : Result BatchSemaphore Refused) (w : Words) → starts ≡ spawned_in a.tasks → Gives r w (start (start_read a starts)) → Gives r w (start (start_said a (spawned a.tasks)))
said-spawned a starts r w e g = subst (Gives r w) (same-spawned a starts e) g
