-- Ten words are read, one kind among them.
use Rattle.words.specs.View.{decoded}
use Rattle.words.proofs.request_of.Goals as goal

pub returns : goal.returns
unfolding decoded
returns c = rw c.kind_of.ensures
