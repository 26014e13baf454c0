-- 1, then 2.
use Rattle.planning.proofs.Composing.{given_here, not_here, none_given}
use Rattle.planning.proofs.Grounds.{is_past, is_within, runs_read}
use borrow.Author.Rules.{rules}
use Rattle.planning.proofs.check_actor.Goals as goal

pub returns-then-h-me : goal.returns-then-h-me
returns-then-h-me c = search (given_here, is_past, rules)

pub returns : goal.returns
returns c = search (not_here, is_within, none_given, runs_read, rules)
