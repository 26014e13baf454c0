-- `reading::read`: all bytes are kept.
use native.Mathlib.Omega.{arith}
use Rattle.bundle_rules.specs.Numbers.{Bytes}
use Rattle.bundle.proofs.Judging.{enough_none}
use Rattle.bundle.proofs.Answering.{reads_all}
use borrow.Author.Rules.{rules}
use Rattle.bundle.proofs.reading.read.Goals as goal

pub read_kept-requires : goal.read_kept-requires
read_kept-requires c = search (enough_none, rules)

pub returns : goal.returns
returns c =
    let bytes : Bytes c.args.bundle.now = λ i. omega (arith, c.shared_slice_known-1.given i) in
    search (reads_all, rules)
