-- 9, then 11.
use Rattle.times.specs.View.{refusal_kept}
use Rattle.times.proofs.times_refusal.Goals as goal

pub returns-then-no_room : goal.returns-then-no_room
unfolding refusal_kept
returns-then-no_room c = λ k sizes rows last makers. rw (← c.no_room.ensures sizes rows, c.if-no_room.true)

pub returns-then-last_tick : goal.returns-then-last_tick
unfolding refusal_kept
returns-then-last_tick c = λ k sizes rows last makers. rw (← c.no_room.ensures sizes rows, c.if-no_room.false, ← c.last_tick.ensures, c.if-last_tick.true)

pub returns : goal.returns
unfolding refusal_kept
returns c = λ k sizes rows last makers. rw (← c.no_room.ensures sizes rows, c.if-no_room.false, ← c.last_tick.ensures, c.if-last_tick.false)
