-- Where the grants are put does not matter to 14; and no fresh state meets it.
use Rattle.std.specs.Prelude.{Result}
use Prim.Native.Nat.{ℕ}
use mathlib.Core.Path.{◌≡◌}
use mathlib.Core.Bool.{false}
use mathlib.Core.List.{List}
use Rattle.rules.specs.Fresh.{Start}
use Rattle.rules.specs.Runs.{start}
use Rattle.state.specs.declared.BatchSemaphore.{BatchSemaphore}
use Rattle.state.specs.View.{Words}
use Rattle.broken.specs.Broken.{is_broken}
use Rattle.broken.proofs.Unbroken.{unbroken-fit, fit-unbroken}
use Rattle.fresh.specs.declared.Refused.{Refused}
use Rattle.fresh.specs.Starting.{state_out, Gives}
use Rattle.fresh.proofs.Starts.{started_shaped, started_sound}
use Rattle.promises.specs.Calls.{IsRoom}

pub any_room : (s : BatchSemaphore) (w : Words) (gs : List ℕ) → is_broken s w gs ≡ false → (room : List ℕ) → IsRoom room → is_broken s w room ≡ false
any_room s w gs e room h =
    let f = unbroken-fit s w gs e in
    fit-unbroken s w room (record { shaped = f.shaped; grants = h; sound = f.sound })

pub started_unbroken : (r : Result BatchSemaphore Refused) (w : Words) (room : List ℕ) (a : Start) → Gives r w (start a) → IsRoom room → is_broken (state_out r) w room ≡ false
started_unbroken r w room a g h = fit-unbroken (state_out r) w room (record { shaped = started_shaped r w a g; grants = h; sound = started_sound r w a g })
