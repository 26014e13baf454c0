-- `numbers::put_number`: std's four bytes are those of the rules.
use mathlib.Core.Path.{◌≡◌, ◌∙◌}
use Rattle.bundle_rules.specs.Numbers.{bytes_of}
use Rattle.bundle.proofs.FourBytes.{number_bytes}
use Rattle.bundle.proofs.numbers.put_number.Goals as goal

pub returns : goal.returns
returns c =
    let e : c.to_le_bytes.result ≡ bytes_of 4 c.args.n = c.to_le_bytes.ensures ∙ number_bytes c.args.n in
    rw e at c.put.ensures
