-- Grants are applied, one a turn.
use Rattle.splitting.specs.Kept.{grant_each}
use Rattle.words.specs.View.{grants_of}
use Rattle.times.specs.View.{kept_of}
use Rattle.times.proofs.Turning.{Turn}
use Rattle.times.proofs.apply_grants.Given as goal

abbrev pub invariant-loop-i : goal.invariant-loop-i
invariant-loop-i l =
    Turn l.out l.sizes l.rows l.last l.makers l.clocks l.stock l.grants l.count l.i (grant_each l.stock (grants_of l.count l.grants) (kept_of l.initial.out l.initial.sizes l.initial.rows l.initial.last l.makers l.initial.clocks))
