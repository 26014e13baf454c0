-- The row is read, its marks changed, and the row written.
use Rattle.words.proofs.Slots.{mark_past, mark_there}
use borrow.Author.Rules.{rules}
use Rattle.words.proofs.mark.Goals as goal

pub returns-then-i-ge32 : goal.returns-then-i-ge32
returns-then-i-ge32 c = search (mark_past, rules)

pub returns : goal.returns
returns c = search (mark_there, rules)
