-- There is room for one more.
use borrow.Author.Rules.{rules}
use Rattle.batches.proofs.Setting.{room}
use Rattle.batches.proofs.Batches.add.Goals as goal

pub push_back-requires : goal.push_back-requires
push_back-requires c = (record { places = search rules; entries = search rules }, search rules, search (room, rules))
