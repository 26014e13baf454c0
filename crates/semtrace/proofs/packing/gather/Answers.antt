use Rattle.semtrace.proofs.packing.gather.Goals as goal

pub loop-i-preserved : goal.loop-i-preserved
loop-i-preserved c = c.in_ok-at.ensures
