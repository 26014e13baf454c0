-- `trace::run_whole`: by what the first line came to.
use borrow.Author.Rules.{rules}
use Rattle.trace.proofs.Firsts.{whole_room, whole-fit, refused-room, bad-room, whole_fresh, whole-refused, whole-bad, whole_none}
use Rattle.trace.proofs.run_whole.Goals as goal

pub run_fresh-requires : goal.run_fresh-requires
run_fresh-requires c =
    let b = c.in-Ok.ensures in
    (whole_room c.requires b, whole-fit b (search rules))

pub returns-in-Ok : goal.returns-in-Ok
returns-in-Ok c = whole_fresh c.in-Ok.ensures c.run_fresh.ensures

pub put-requires : goal.put-requires
put-requires c =
    let p = rw c.in-Err-Refused.field-0-is at c.in-Err-Refused.ensures in
    refused-room c.requires p

pub returns-in-Err-Refused : goal.returns-in-Err-Refused
returns-in-Err-Refused c =
    let p = rw c.in-Err-Refused.field-0-is at c.in-Err-Refused.ensures in
    whole-refused p c.put.ensures

pub put-requires-in-Err-Bad : goal.put-requires-in-Err-Bad
put-requires-in-Err-Bad c =
    let p = rw c.in-Err-Bad.field-0-is at c.in-Err-Bad.ensures in
    bad-room c.requires p

pub returns-in-Err-Bad : goal.returns-in-Err-Bad
returns-in-Err-Bad c =
    let p = rw c.in-Err-Bad.field-0-is at c.in-Err-Bad.ensures in
    whole-bad p c.put-in-Err-Bad.ensures

pub returns-in-Err-Nothing : goal.returns-in-Err-Nothing
returns-in-Err-Nothing c =
    let p = rw c.in-Err-Nothing.field-0-is at c.in-Err-Nothing.ensures in
    whole_none c.args.script.now c.args.out.now p
