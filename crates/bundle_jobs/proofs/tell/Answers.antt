-- `tell`: no room, a refusal, the scripts or the rows.
use lib.ListN.{length}
use borrow.Author.Rules.{rules}
use Rattle.bundle_jobs.specs.Printed.{text_for}
use Rattle.bundle_jobs.proofs.Telling.{lent_by, prints_none, refusal-room, ends_there, ends-short, room-there, list_room, prints_refused, refused_text, prints_scripts, prints_rows}
use Rattle.bundle_jobs.proofs.tell.Goals as goal

pub returns-then-out-bundle : goal.returns-then-out-bundle
returns-then-out-bundle c = search (prints_none, rules)

pub put_refusal-requires : goal.put_refusal-requires
put_refusal-requires c = search (refusal-room, rules)

pub put_scripts-requires : goal.put_scripts-requires
put_scripts-requires c =
    (lent_by (ends_there c.args.bundle.now c.args.more c.in-Ok.contents c.in-Ok.ensures) (search rules) (search rules), room-there (length c.args.out.now) (length c.args.bundle.now) c.if-out-bundle.false)

pub put_rows-requires : goal.put_rows-requires
put_rows-requires c =
    (lent_by (ends-short c.args.bundle.now c.args.more c.in-Ok.contents c.in-Ok.ensures) (search rules) (search rules), list_room c.args.bundle.now c.args.more c.in-Ok.contents c.in-Ok.ensures (length c.args.out.now) c.if-out-bundle.false)

pub returns-in-Err : goal.returns-in-Err
returns-in-Err c =
    prints_refused c.args.bundle.now c.args.more (text_for c.args.job) c.in-Err.why _ _ _ c.in-Err.ensures (refused_text c.args.job) c.if-out-bundle.false c.put_refusal.ensures

pub returns-in-Run : goal.returns-in-Run
returns-in-Run c =
    rw c.in-Run.is (prints_scripts c.args.bundle.now c.args.more c.in-Ok.contents c.in-Ok.ensures _ _ _ c.if-out-bundle.false c.put_scripts.ensures)

pub returns-in-List : goal.returns-in-List
returns-in-List c =
    rw c.in-List.is (prints_rows c.args.bundle.now c.args.more c.in-Ok.contents c.in-Ok.ensures _ _ _ c.if-out-bundle.false c.put_rows.ensures)
