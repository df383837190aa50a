-- The names are new, and with it there is one choice more.
use Rattle.std.proofs.Common.{◌%◌, subst, sym, ap, ◌∙◌}
use Rattle.std.proofs.lemmas.Result.{on_ok_weaker}
use Rattle.uhura_plan.specs.Refusals.{Answers}
use Rattle.uhura_gen.specs.Draws.{following}
use Rattle.uhura_gen.specs.Numbered.{IsNumbered}
use Rattle.uhura_gen.proofs.Adding.{handed_on}
use Rattle.uhura_gen.proofs.Choosing.{pair_is, choice_answer, adds_choice}
use Rattle.uhura_gen.proofs.Numbering.{numbered_choice}
use Rattle.uhura_gen.proofs.choices.add_choice.Goals as goal

pub unrefused-requires : goal.unrefused-requires
unrefused-requires c =
    subst (λ o. Answers o c.add_choice.result)
    (choice_answer c.args.plan.now c.name_of.result c.alternative.result c.alternative-2.result c.alternative-3.result c.args.generator.now.x c.args.place
    (record {
      name_is = c.name_of.ensures;
      first_is = pair_is c.alternative.result _ _ c.alternative.ensures.name c.alternative.ensures.cost;
      second_is = pair_is c.alternative-2.result _ _ c.alternative-2.ensures.name (c.alternative-2.ensures.cost ∙ ap (λ y. following y % 30) c.alternative.ensures.number);
      third_is =
          pair_is c.alternative-3.result _ _ c.alternative-3.ensures.name
          (c.alternative-3.ensures.cost ∙ ap (λ y. following y % 30) (c.alternative-2.ensures.number ∙ ap following c.alternative.ensures.number));
    })
    c.requires.numbered c.requires.place c.requires.few)
    c.add_choice.ensures.answer

pub returns-clause-choice : goal.returns-clause-choice
returns-clause-choice c =
    handed_on c.unrefused.result c.add_choice.result c.unrefused.ensures
    (adds_choice c.args.plan.now c.add_choice.new.self c.name_of.result c.alternative.result c.alternative-2.result c.alternative-3.result c.args.generator.now.x c.args.place
    (record {
      name_is = c.name_of.ensures;
      first_is = pair_is c.alternative.result _ _ c.alternative.ensures.name c.alternative.ensures.cost;
      second_is = pair_is c.alternative-2.result _ _ c.alternative-2.ensures.name (c.alternative-2.ensures.cost ∙ ap (λ y. following y % 30) c.alternative.ensures.number);
      third_is =
          pair_is c.alternative-3.result _ _ c.alternative-3.ensures.name
          (c.alternative-3.ensures.cost ∙ ap (λ y. following y % 30) (c.alternative-2.ensures.number ∙ ap following c.alternative.ensures.number));
    }))
    c.add_choice.ensures.ok

pub returns-clause-numbered : goal.returns-clause-numbered
returns-clause-numbered c =
    on_ok_weaker c.unrefused.result
    (λ is. subst IsNumbered (sym is) (numbered_choice c.args.plan.now c.args.generator.now.x c.args.place c.requires.numbered c.requires.place))
    (returns-clause-choice c)
