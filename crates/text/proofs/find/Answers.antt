-- `text::find`: the first position that is found, or the length of all.
use Rattle.std.proofs.Common.{◌-◌, length, take, drop}
use Rattle.std.proofs.lemmas.Iterator.{YieldsList-from_slice}
use Rattle.std.proofs.lemmas.Iterator.Search.{position_from_yields_List}
use borrow.Author.Rules.{rules}
use borrow.Author.Tests.{tests}
use Rattle.text.proofs.Scanning.{found_position}
use Rattle.text.proofs.find.Goals as goal

pub returns : goal.returns
returns c =
    let s = c.args.s.now in
    let from = c.args.from in
    found_position s from c.args.b _ c.position.result c.requires
    (position_from_yields_List _ _ _ _ c.position.ensures.ran (YieldsList-from_slice (take (length s - from) (drop from s)) c.iter.ensures.rest) (λ x b q k. search (rules, tests)))
    c.unwrap_or.ensures
