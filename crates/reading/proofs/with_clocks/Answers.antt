-- `reading::with_clocks`: all of them.
use Rattle.reading.proofs.Starts.{given_all}
use Rattle.reading.proofs.with_clocks.Goals as goal

pub returns-in-Some : goal.returns-in-Some
returns-in-Some c =
    given_all c.args.first c.args.line.now c.args.at c.args.next c.read_clocks.new.starts c.in-Some.n c.in-Some.ensures c.are_all.result c.are_all.ensures c.if-are_all.true
