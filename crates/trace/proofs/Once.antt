-- No second answer fits: the bytes that are printed, how many they are, and the buffer behind them are those of the script and the buffer.
use Prim.Native.Nat.{ℕ}
use native.Mathlib.Decide.{dec_le}
use native.Mathlib.Omega.{arith}
use mathlib.Core.Path.{◌≡◌, ap, sym, ◌∙◌}
use mathlib.Core.List.{List, ◌++◌}
use lib.ListN.{length, drop}
use Rattle.rules.specs.Script.{printed}
use Rattle.trace.specs.Running.{room, Prints}

pub prints_once : {script old out out' : List ℕ} {r r' : ℕ} → Prints script old out r → Prints script old out' r' → (r ≡ r') × (out ≡ out')
prints_once {script} {old} {out} {out'} {r} {r'} p q =
    elim (dec_le (room script) (length old)) [
      | yes h ↦
          let e : r ≡ r' = p.count h ∙ sym (q.count h) in
          (e, p.text h ∙ ap (λ (n : ℕ). printed script ++ drop n old) e ∙ sym (q.text h))
      | no h ↦
          let a = p.short (omega arith) in
          let b = q.short (omega arith) in
          (a.0 ∙ sym b.0, a.1 ∙ sym b.1)
    ]
