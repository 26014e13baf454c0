-- `reading::read_start`: a start, its clocks spawned or given, or none.
use Rattle.reading.proofs.Starts.{start-spawned, start-given}
use Rattle.reading.proofs.read_start.Goals as goal

pub returns-in-Some-Spawned : goal.returns-in-Some-Spawned
returns-in-Some-Spawned c =
    let p = rw c.in-Some-Spawned.field-0-is at c.in-Some-Spawned.ensures in
    start-spawned _ _ _ c.in-Some-Spawned.first p c.spawn.ensures

pub returns-in-Some-Given : goal.returns-in-Some-Given
returns-in-Some-Given c =
    let p = rw c.in-Some-Given.field-0-is at c.in-Some-Given.ensures in
    start-given _ _ _ c.in-Some-Given.first c.in-Some-Given.at _ p c.with_clocks.ensures
