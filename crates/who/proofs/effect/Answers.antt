-- At rest it is done; else it moves, on words that are as they were.
use Rattle.who.proofs.Stepping.{rests, moves, moves-shaped, moves_able, moved_on}
use borrow.Author.Rules.{rules}
use Rattle.who.proofs.effect.Goals as goal

pub effect-requires : goal.effect-requires
effect-requires c =
    let by = c.effect_at_rest.ensures in
    let on = c.in-None.is in (
      moves-shaped _ _ _ _ _ c.requires.0 _ _ _ by on,
      c.requires.1,
      moves _ _ _ _ _ c.requires.0 _ _ _ by on,
      moves_able _ _ _ _ _ c.requires.0 _ _ _ by on c.requires.3,
    )

pub returns-in-None : goal.returns-in-None
returns-in-None c =
    moved_on _ _ _ _ _ c.requires.0 _ _ _ c.effect_at_rest.ensures c.in-None.is _ _ _ _ c.effect.ensures

pub returns-in-Some : goal.returns-in-Some
returns-in-Some c = search (rests, rules)
