-- `printing::bit`: the digit of each.
use mathlib.Core.Path.{◌≡◌, refl}
use mathlib.Core.Bool.{Bool, true, false}
use Rattle.std.specs.Int.{from_bool}
use Rattle.rules.specs.Text.{last_digits, digits}
use Rattle.rules.specs.Script.{closed_text}
use Rattle.printing.proofs.bit.Goals as goal

digit_of : (b : Bool) → digits (from_bool b) ≡ closed_text b
unfolding digits last_digits
digit_of true = refl
digit_of false = refl

pub returns : goal.returns
returns c = rw c.from.ensures (digit_of c.args.b)
