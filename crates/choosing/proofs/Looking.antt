-- Whether every queued request is Bypassable: the same over the slots alone and over the state.
use mathlib.Core.Path.{◌≡◌, refl}
use mathlib.Core.List.{List, [], ◌∷◌}
use Rattle.rules.specs.declared.Slot.{Slot}
use Rattle.splitting.specs.Plain.{Plain}
use Rattle.splitting.specs.Who.{all_bypassable}
use Rattle.choosing.specs.Choice.{every_bypassable}

pub every_of : (q : List Slot) (s : Plain) → every_bypassable q s.slots ≡ all_bypassable q s
unfolding all_bypassable
every_of [] s = refl
every_of (x ∷ q) s = rw (every_of q s)
