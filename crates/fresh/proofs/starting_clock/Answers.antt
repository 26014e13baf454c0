use Rattle.fresh.proofs.Rows.{row_padded}
use Rattle.fresh.proofs.starting_clock.Goals as goal

pub returns : goal.returns
returns c = row_padded c.args.starts.now _ c.args.base c.args.n c.copy_from_slice.ensures.after
