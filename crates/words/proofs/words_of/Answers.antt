-- Word by word.
use Rattle.words.specs.View.{encoded}
use Rattle.words.proofs.Single.{mark_as, kind_as}
use Rattle.words.proofs.words_of.Goals as goal

pub returns : goal.returns
unfolding encoded
returns c =
    rw (
      c.from.ensures,
      c.from-2.ensures,
      c.from-3.ensures,
      c.from-4.ensures,
      c.from-5.ensures,
      c.from-6.ensures,
    )
    (simp (mark_as, kind_as))
