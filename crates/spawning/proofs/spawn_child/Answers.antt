-- `spawning::spawn_child`: two words are written.
use borrow.Author.Rules.{rules}
use Rattle.spawning.proofs.Spawns.{place-within, place_small, place_scaled, child_more}
use Rattle.spawning.proofs.spawn_child.Goals as goal

pub overflow_mul-starts : goal.overflow_mul-starts
overflow_mul-starts c = record { fits = search (place_small, rules) }

pub offset_bounds-starts-i : goal.offset_bounds-starts-i
offset_bounds-starts-i c = record { fits = search (place_scaled, rules) }

pub bounds-starts-i : goal.bounds-starts-i
bounds-starts-i c = search (place-within, rules)

pub returns : goal.returns
returns c = search (child_more, rules)
