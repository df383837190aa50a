-- The choice at a place of a sound plan has few alternatives.
use Rattle.std.proofs.Common.{sym, ◌∙◌, arith}
use Rattle.std.proofs.lemmas.List.{length-map}
use Rattle.uhura_plan.specs.Lists.{alternative_names}
use Rattle.uhura_plan.proofs.Finds.{place_within}
use Rattle.uhura_plan.proofs.plan.Plan.find_alternative.Goals as goal

pub overflow_cast-result : goal.overflow_cast-result
overflow_cast-result c =
    let choice = c.in_ok-choice.field-0.now in
    let few = (c.choice.ensures.sound.choices _ _ (sym c.in_ok-choice.ensures.choice)).few in
    let within = place_within (alternative_names choice) c.args.name c.in_ok-place.place (sym c.find.ensures ∙ c.in_ok-place.was) in
    omega (arith, within, few, length-map choice.alternatives (λ a. a.0))
