-- Each requirement is the next one.
use Rattle.uhura_gen.proofs.Looping.{no_steps, more_steps}
use Rattle.uhura_gen.proofs.requirements.add_steps.Goals as goal

pub loop-place-init : goal.loop-place-init
loop-place-init c = no_steps c.args.plan.now c.args.generator.now.x c.requires.none c.requires.numbered

pub loop-place-preserved : goal.loop-place-preserved
loop-place-preserved c =
    more_steps c.args.plan.now c.loop-place.plan c.add_step.new.plan c.args.generator.now.x c.loop-place.generator.x c.add_step.new.generator.x c.loop-place.place c.loop-place.invariant
    c.in_ok-add_step.ensures.step c.in_ok-add_step.ensures.numbered c.in_ok-add_step.ensures.names c.in_ok-add_step.ensures.number
