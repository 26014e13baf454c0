-- One call for each kind of step.
use mathlib.Core.Path.{refl}
use Rattle.splitting.specs.declared.Timing.TheVariants.{Makes, Takes, Tries, Gives, Stays}
use Rattle.times.proofs.Stepping.{able, stepped}
use Rattle.times.proofs.times_step.Goals as goal

pub returns-in-Makes : goal.returns-in-Makes
returns-in-Makes c =
    let a = c.args in
    λ ticks. stepped a.step _ Makes c.timing_of-change.ensures c.in-Makes.is _ _ _ _ _ _ _ _ _ _ (record { formed = c.requires.1; view = c.make.ensures a.b a.sizes.now a.rows.now a.last.now })

pub take_granted-requires : goal.take_granted-requires
take_granted-requires c =
    let p = able c.args.step _ Takes c.timing_of-change.ensures c.in-Takes.is _ _ _ _ _ c.requires.6 in
    (c.requires.0, c.requires.1, c.requires.2, c.requires.4, c.requires.5, p.0, p.1)

pub returns-in-Takes : goal.returns-in-Takes
returns-in-Takes c =
    let a = c.args in
    λ ticks. stepped a.step _ Takes c.timing_of-change.ensures c.in-Takes.is _ _ _ _ _ _ _ _ _ _ (c.take_granted.ensures a.makers.now)

pub try_times-requires : goal.try_times-requires
try_times-requires c =
    let p = able c.args.step _ Tries c.timing_of-change.ensures c.in-Tries.is _ _ _ _ _ c.requires.6 in
    (c.requires.0, c.requires.1, c.requires.2, c.requires.4, c.requires.5, p.0, p.1, p.2)

pub returns-in-Tries : goal.returns-in-Tries
returns-in-Tries c =
    let a = c.args in
    λ ticks. stepped a.step _ Tries c.timing_of-change.ensures c.in-Tries.is _ _ _ _ _ _ _ _ _ _ (c.try_times.ensures a.makers.now)

pub give_times-requires : goal.give_times-requires
give_times-requires c =
    let p = able c.args.step _ Gives c.timing_of-change.ensures c.in-Gives.is _ _ _ _ _ c.requires.6 in
    (c.requires.0, c.requires.1, c.requires.2, c.requires.3, c.requires.4, p.0, c.requires.5, p.1, p.2)

pub returns-in-Gives : goal.returns-in-Gives
returns-in-Gives c =
    let a = c.args in
    λ ticks. stepped a.step _ Gives c.timing_of-change.ensures c.in-Gives.is _ _ _ _ _ _ _ _ _ _ c.give_times.ensures

pub returns-in-Stays : goal.returns-in-Stays
returns-in-Stays c =
    λ ticks. stepped c.args.step _ Stays c.timing_of-change.ensures c.in-Stays.is _ _ _ _ _ _ _ _ _ _ (record { formed = c.requires.1; view = refl })
