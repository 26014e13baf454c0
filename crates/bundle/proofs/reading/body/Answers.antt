-- `reading::body`: behind the contents and the bodies before it.
use native.Mathlib.Omega.{arith}
use mir.Syntax.{w32}
use mir.Val.{Fits}
use lib.ListN.{get_or}
use Rattle.bundle.proofs.Bodies.{none_of_many, none_such, none_so_far, body_here}
use borrow.Author.Rules.{rules}
use Rattle.bundle.proofs.reading.body.Goals as goal

pub returns-then-contents-gt-MOST : goal.returns-then-contents-gt-MOST
returns-then-contents-gt-MOST c = search (none_of_many, rules)

pub returns-then-n-i : goal.returns-then-n-i
returns-then-n-i c = search (none_such, rules)

pub overflow_add-end : goal.overflow_add-end
overflow_add-end c =
    let size : Fits w32 (get_or c.args.contents.lengths c.args.i 0) = search rules in
    omega arith

pub returns-then-bundle-end : goal.returns-then-bundle-end
returns-then-bundle-end c = search (none_so_far, rules)

pub returns : goal.returns
returns c = search (body_here, rules)
