-- `printing::print_line`: five pieces one behind the other.
use borrow.Author.Rules.{rules}
use Rattle.replies.specs.Answers.{answer_of}
use Rattle.words.specs.View.{grants_of}
use Rattle.printing.proofs.Lines.{room-answer, room-blank, room-counts, room-grants, room-end, line_written}
use Rattle.printing.proofs.print_line.Goals as goal

pub print_answer-p-requires : goal.print_answer-p-requires
print_answer-p-requires c = search (room-answer, rules)

pub put-q-requires : goal.put-q-requires
put-q-requires c = search (room-blank, rules)

pub print_counts-r-requires : goal.print_counts-r-requires
print_counts-r-requires c = search (room-counts, rules)

pub print_grants-s-requires : goal.print_grants-s-requires
print_grants-s-requires c = search (room-grants, rules)

pub put-requires : goal.put-requires
put-requires c = search (room-end, rules)

pub returns : goal.returns
returns c =
    line_written _ _ (answer_of c.args.a) c.args.c (grants_of c.args.n c.args.grants.now) c.requires.2 _ _ c.print_answer-p.ensures _ _ c.put-q.ensures _ _ c.print_counts-r.ensures _ _ c.print_grants-s.ensures _ _ c.put.ensures
