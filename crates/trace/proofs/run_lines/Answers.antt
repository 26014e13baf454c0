use native.Mathlib.Omega.{arith}
use borrow.Author.Rules.{rules}
use Rattle.trace.proofs.Turns.{bad-room, bad_walked, said-few, said-room, said_walked, onward_none, onward_length, onward_ends}
use Rattle.trace.proofs.run_lines.Goals as goal

pub loop-at-init : goal.loop-at-init
loop-at-init c = search (onward_none, rules)

pub put-n-requires : goal.put-n-requires
put-n-requires c =
    let k = c.walk_lent-r in
    bad-room k.result k.new.s c.loop-at.invariant.0 k.ensures.comes c.in-None.is

pub print_step-n-requires : goal.print_step-n-requires
print_step-n-requires c =
    let k = c.walk_lent-r in
    let o = c.loop-at.invariant.0 in
    (said-few k.result k.new.s o k.ensures.comes c.in-Some.is, k.ensures.comes.fit.grants, said-room k.result k.new.s o k.ensures.comes c.in-Some.is)

pub loop-at-smaller : goal.loop-at-smaller
loop-at-smaller c = omega (arith, c.walk_lent-r.ensures.comes.on, c.walk_lent-r.ensures.comes.within)

pub loop-at-smaller-in-Some : goal.loop-at-smaller-in-Some
loop-at-smaller-in-Some c = omega (arith, c.walk_lent-r.ensures.comes.on, c.walk_lent-r.ensures.comes.within)

pub loop-at-preserved : goal.loop-at-preserved
loop-at-preserved c =
    let k = c.walk_lent-r in
    (bad_walked k.result k.new.s c.loop-at.invariant.0 k.ensures.comes c.in-None.is c.put-n.ensures, k.ensures.comes.fit)

pub loop-at-preserved-in-Some : goal.loop-at-preserved-in-Some
loop-at-preserved-in-Some c =
    let k = c.walk_lent-r in
    (said_walked k.result k.new.s c.loop-at.invariant.0 k.ensures.comes c.in-Some.is c.print_step-n.ensures, k.ensures.comes.fit)

pub shape_of-out : goal.shape_of-out
shape_of-out c = search (onward_length, rules)

pub returns : goal.returns
returns c = search (onward_ends, rules)
