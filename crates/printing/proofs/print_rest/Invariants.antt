-- `printing::print_rest`: the takers up to the place reached are written.
use mathlib.Core.Path.{◌≡◌}
use lib.ListN.{length}
use Rattle.words.specs.View.{grants_of}
use Rattle.text.specs.Writing.{Appended}
use Rattle.printing.specs.Printed.{rest_text}
use Rattle.printing.proofs.print_rest.Given as goal

abbrev pub invariant-loop-i : goal.invariant-loop-i
invariant-loop-i l =
    (length l.buf ≡ length l.initial.buf) × Appended l.initial.buf l.at (rest_text (grants_of l.i l.grants)) l.buf l.p
