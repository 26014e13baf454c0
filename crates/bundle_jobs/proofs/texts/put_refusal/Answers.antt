-- `texts::put_refusal`: `r`, the number, a line feed.
use mathlib.Core.Path.{◌≡◌}
use borrow.Author.Rules.{rules}
use Rattle.bundle_rules.specs.Reading.{number_of}
use Rattle.bundle_jobs.proofs.Pieces.{refusal-number, refusal-end, refusal_put}
use Rattle.bundle_jobs.proofs.texts.put_refusal.Goals as goal

pub print_number-q-requires : goal.print_number-q-requires
print_number-q-requires c =
    let e : c.from-2.result ≡ number_of c.args.why = cc in
    search (refusal-number, rules)

pub put-requires : goal.put-requires
put-requires c =
    let e : c.from-2.result ≡ number_of c.args.why = cc in
    search (refusal-end, rules)

pub returns : goal.returns
returns c =
    let e : c.from-2.result ≡ number_of c.args.why = cc in
    search (refusal_put, rules)
