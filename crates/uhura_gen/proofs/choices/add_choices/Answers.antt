-- Each choice is the next one.
use Rattle.std.proofs.Common.{◌≡◌, ap, ◌∙◌, arith}
use Rattle.uhura_gen.specs.Generator.{choices}
use Rattle.uhura_gen.proofs.Looping.{no_choices, more_choices, count_choices}
use Rattle.uhura_gen.proofs.choices.add_choices.Goals as goal

pub loop-place-init : goal.loop-place-init
loop-place-init c = no_choices c.args.plan.now c.args.generator.now.x c.requires.none c.requires.numbered

pub loop-place-preserved : goal.loop-place-preserved
loop-place-preserved c =
    more_choices c.args.plan.now c.loop-place.plan c.add_choice.new.plan c.args.generator.now.x c.loop-place.generator.x c.add_choice.new.generator.x c.loop-place.place c.loop-place.invariant
    c.in_ok-add_choice.ensures.choice c.in_ok-add_choice.ensures.numbered c.in_ok-add_choice.ensures.number

pub add_choice-requires-clause-place : goal.add_choice-requires-clause-place
add_choice-requires-clause-place c = count_choices _ _ _ _ _ c.loop-place.invariant

pub returns-clause-choices : goal.returns-clause-choices
returns-clause-choices c =
    let all : c.loop-place.place ≡ 3 = omega arith in
    c.loop-place.invariant.list ∙ ap (λ n. record c.args.plan.now { choices = choices c.args.generator.now.x n }) all
