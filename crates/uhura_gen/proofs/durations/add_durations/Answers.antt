-- Each duration is the next one.
use Rattle.uhura_gen.proofs.Looping.{no_durations, more_durations, count_durations}
use Rattle.uhura_gen.proofs.durations.add_durations.Goals as goal

pub loop-place-init : goal.loop-place-init
loop-place-init c = no_durations c.args.plan.now c.args.generator.now.x c.requires.none c.requires.numbered

pub loop-place-preserved : goal.loop-place-preserved
loop-place-preserved c =
    more_durations c.args.plan.now c.loop-place.plan c.add_duration.new.plan c.args.generator.now.x c.loop-place.generator.x c.add_duration.new.generator.x c.loop-place.place c.loop-place.invariant
    c.in_ok-add_duration.ensures.duration c.in_ok-add_duration.ensures.numbered c.in_ok-add_duration.ensures.number

pub add_duration-requires-clause-place : goal.add_duration-requires-clause-place
add_duration-requires-clause-place c = count_durations _ _ _ _ _ c.loop-place.invariant
