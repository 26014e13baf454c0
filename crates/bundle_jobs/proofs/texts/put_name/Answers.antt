-- `texts::put_name`: up to the first zero byte.
use borrow.Author.Rules.{rules}
use Rattle.bundle_jobs.proofs.Pieces.{name-counted, name-room, name_put}
use Rattle.bundle_jobs.proofs.texts.put_name.Goals as goal

pub slice_bounds-put-end : goal.slice_bounds-put-end
slice_bounds-put-end c = search (name-counted, rules)

pub put-requires : goal.put-requires
put-requires c = search (name-room, rules)

pub returns : goal.returns
returns c = search (name_put, rules)
