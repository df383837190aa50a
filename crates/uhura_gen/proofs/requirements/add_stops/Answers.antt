-- Each requirement is the next one.
use Rattle.std.proofs.Common.{◌+◌, ◌-◌, length, subst, ap, ◌∙◌}
use Rattle.uhura_plan.specs.Edits.{with_requirement}
use Rattle.uhura_gen.specs.Items.{stop}
use Rattle.uhura_gen.specs.Numbered.{HasRequirements}
use Rattle.uhura_gen.proofs.Looping.{no_stops, more_stops}
use Rattle.uhura_gen.proofs.requirements.add_stops.Goals as goal

pub loop-place-init : goal.loop-place-init
loop-place-init c = no_stops c.args.plan.now c.args.generator.now.x (length c.args.plan.now.events - 1) c.requires.numbered c.requires.names

pub loop-place-preserved : goal.loop-place-preserved
loop-place-preserved c =
    let slot = ap (λ p. length p.events - 1) c.loop-place.invariant.list in
    more_stops c.args.plan.now c.loop-place.plan c.add_stop.new.plan c.args.generator.now.x c.loop-place.generator.x c.add_stop.new.generator.x (length c.args.plan.now.events - 1) c.loop-place.place c.loop-place.invariant
    (c.in_ok-add_stop.ensures.stop ∙ ap (λ s. with_requirement c.loop-place.plan (stop c.loop-place.generator.x (s + c.loop-place.place) c.loop-place.place)) slot)
    c.in_ok-add_stop.ensures.numbered
    (subst (λ s. HasRequirements c.add_stop.new.plan s (c.loop-place.place + 1)) slot c.in_ok-add_stop.ensures.names)
    c.in_ok-add_stop.ensures.number
