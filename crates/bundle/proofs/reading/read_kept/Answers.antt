-- `reading::read_kept`: 20, then 21.
use Rattle.bundle.proofs.Judging.{no_count, table_cut, too_many_lem, table-whole}
use borrow.Author.Rules.{rules}
use Rattle.bundle.proofs.reading.read_kept.Goals as goal

pub returns-then-s-lt4 : goal.returns-then-s-lt4
returns-then-s-lt4 c = search (no_count, rules)

pub returns-then-is_cut : goal.returns-then-is_cut
returns-then-is_cut c = search (table_cut, rules)

pub returns-then-n-gt-MOST : goal.returns-then-n-gt-MOST
returns-then-n-gt-MOST c = search (too_many_lem, rules)

pub judged-requires : goal.judged-requires
judged-requires c =
    table-whole c.args.s.now c.number_at-n.result c.args.more c.is_cut.result c.number_at-n.ensures c.is_cut.ensures
    c.if-is_cut.false c.if-n-gt-MOST.false c.requires
