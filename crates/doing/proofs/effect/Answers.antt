-- One answer for each choice.
use Rattle.doing.proofs.Every.{asks-poll, poll-moves, asks_try, asks-release, asks-drop, does-poll, does_try, does-release, does-drop, does-close}
use borrow.Author.Rules.{rules}
use Rattle.doing.proofs.effect.Goals as goal

pub poll_by-requires : goal.poll_by-requires
poll_by-requires c = search (asks-poll, poll-moves, rules)

pub take_by_try-requires : goal.take_by_try-requires
take_by_try-requires c = search (asks_try, rules)

pub release-requires : goal.release-requires
release-requires c = search (asks-release, rules)

pub drop_request-requires : goal.drop_request-requires
drop_request-requires c = search (asks-drop, rules)

pub returns-in-Polls : goal.returns-in-Polls
returns-in-Polls c = search (does-poll, rules)

pub returns-in-Tries : goal.returns-in-Tries
returns-in-Tries c = search (does_try, rules)

pub returns-in-Releases : goal.returns-in-Releases
returns-in-Releases c = search (does-release, rules)

pub returns-in-Drops : goal.returns-in-Drops
returns-in-Drops c = search (does-drop, rules)

pub returns-in-Closes : goal.returns-in-Closes
returns-in-Closes c = search (does-close, rules)
