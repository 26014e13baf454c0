-- Past the slots none; else the row, as what stands there.
use Rattle.words.proofs.Slots.{stands_past, stands-there}
use borrow.Author.Rules.{rules}
use Rattle.words.proofs.request_at.Goals as goal

pub returns-then-i-ge32 : goal.returns-then-i-ge32
returns-then-i-ge32 c = search (stands_past, rules)

pub returns : goal.returns
returns c = search (stands-there, rules)
