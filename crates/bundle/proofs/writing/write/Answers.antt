-- `bundle::write`: a refusal, or the bundle.
use borrow.Author.Rules.{rules}
use Rattle.std.proofs.lemmas.Result.{err_from_is_err_and}
use Rattle.bundle.specs.Writes.{Arrays}
use Rattle.bundle.proofs.Bundling.{good_lent, writes_not, writes_bytes}
use Rattle.bundle.proofs.writing.write.Goals as goal

pub put_bundle-requires : goal.put_bundle-requires
put_bundle-requires c =
    let a : Arrays c.args.contents = search rules in
    good_lent c.args.contents c.args.bodies.now c.args.out.now a c.in_ok-ground.ensures

pub returns-in_err-ground : goal.returns-in_err-ground
returns-in_err-ground c =
    let a : Arrays c.args.contents = search rules in
    let p = err_from_is_err_and c.from_residual.result c.from_residual.ensures.1 in
    rw (p.1, p.2) (writes_not c.args.contents c.args.bodies.now c.args.out.now a c.in_err-ground.field-0.0 c.in_err-ground.ensures)

pub returns : goal.returns
returns c =
    let a : Arrays c.args.contents = search rules in
    writes_bytes c.args.contents c.args.bodies.now c.args.out.now a c.in_ok-ground.ensures c.put_bundle.new.out c.put_bundle.result
    c.put_bundle.ensures
