-- One row is written over.
use Rattle.words.proofs.Slots.{put_past, put_there}
use borrow.Author.Rules.{rules}
use Rattle.words.proofs.put_request.Goals as goal

pub returns-then-i-ge32 : goal.returns-then-i-ge32
returns-then-i-ge32 c = search (put_past, rules)

pub returns : goal.returns
returns c = search (put_there, rules)
