use native.Mathlib.Omega.{arith}
use borrow.Author.Rules.{rules}
use Rattle.text.proofs.Printing.{room_one, print_one, room_tenth, room_more, print_more}
use Rattle.text.proofs.+print_number.Goals as goal

pub bounds-buf-at : goal.bounds-buf-at
bounds-buf-at t c = search (room_one, rules)

pub returns-then-n-lt10 : goal.returns-then-n-lt10
returns-then-n-lt10 t c = search (print_one, rules)

pub print_number-k-requires : goal.print_number-k-requires
print_number-k-requires t c =
    let a = c.args in
    (omega arith, omega (arith, room_tenth a.buf.now a.at a.n (search rules) (search rules)))

pub bounds-buf-k : goal.bounds-buf-k
bounds-buf-k t c = search (room_more, rules)

pub returns : goal.returns
returns t c = search (print_more, rules)
