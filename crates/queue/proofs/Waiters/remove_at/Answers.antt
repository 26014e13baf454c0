use native.Mathlib.Omega.{arith}
use borrow.Author.Rules.{rules}
use mathlib.Core.Path.{◌∙◌}
use Prim.Native.Nat.{◌-◌}
use mathlib.Core.Path.{ap}
use mathlib.Core.List.{List}
use lib.ListN.{take}
use Rattle.rules.specs.declared.Slot.{Slot}
use Rattle.queue.specs.View.{waiters_of}
use Rattle.queue.proofs.Lists.{closed_up}
use Rattle.queue.proofs.Waiters.remove_at.Goals as goal

pub returns : goal.returns
unfolding waiters_of
returns c =
    let w = c.args.self in
    record {
      fits = omega arith;
      view = ap (λ (l : List Slot). take (w.len - 1) l) c.copy_within.ensures.after ∙ closed_up w.slots c.args.i w.len (omega arith) (search rules);
    }
