-- `bundle::ground`: each test in its turn.
use borrow.Author.Rules.{rules}
use Rattle.bundle.proofs.Grounds.{told_many, told-name, told-sum, told-long, told-room, told_none}
use Rattle.bundle.proofs.writing.ground.Goals as goal

pub returns-then-contents-gt-MOST : goal.returns-then-contents-gt-MOST
returns-then-contents-gt-MOST c = search (told_many, rules)

pub returns-then-not-well_named : goal.returns-then-not-well_named
returns-then-not-well_named c = search (told-name, rules)

pub returns-then-sum-size : goal.returns-then-sum-size
returns-then-sum-size c = search (told-sum, rules)

pub returns-then-table-size : goal.returns-then-table-size
returns-then-table-size c = search (told-long, rules)

pub returns-then-room-table : goal.returns-then-room-table
returns-then-room-table c = search (told-room, rules)

pub returns : goal.returns
returns c = search (told_none, rules)
