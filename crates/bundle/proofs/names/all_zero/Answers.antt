-- `names::all_zero`: `all` of the recursion in the rules.
use lib.Dec.{eqb}
use mathlib.Core.Path.{refl}
use borrow.Author.Rules.{rules}
use Rattle.std.proofs.lemmas.List.Recursion.{and_is}
use Rattle.bundle_rules.specs.Bundled.{zeros}
use Rattle.bundle.proofs.names.all_zero.Goals as goal

pub returns : goal.returns
unfolding zeros
returns c = and_is zeros (λ b. eqb b 0) refl (λ _ _. refl) c.args.s.now 0 _ (search rules) (search rules)
