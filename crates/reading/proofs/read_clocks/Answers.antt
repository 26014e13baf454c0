use borrow.Author.Rules.{rules}
use Rattle.reading.proofs.Numbers.{along_none, along_bad, along_last, along_more}
use Rattle.reading.proofs.read_clocks.Goals as goal

pub loop-x-init : goal.loop-x-init
loop-x-init c = search (along_none, rules)

pub returns-in_err-x : goal.returns-in_err-x
returns-in_err-x c = rw c.from_residual.ensures (along_bad c.args.line.now c.loop-x.at c.args.from c.loop-x.starts c.loop-x.n c.in_err-x.ensures c.loop-x.invariant)

pub returns-in-Last : goal.returns-in-Last
returns-in-Last c =
    along_last _ _ c.in_ok-x.field-0 c.in_ok-x.ensures _ _ _ c.loop-x.invariant c.in-Last.x c.keep.result c.keep.new.starts c.keep.ensures.0 c.keep.ensures.1 c.in-Last.is

pub loop-x-preserved : goal.loop-x-preserved
loop-x-preserved c = search (along_more, rules)
