-- The name is new, the events are there, and with it there is one requirement more.
use Rattle.std.proofs.Common.{◌+◌, refl, subst, sym, ap, ◌∙◌}
use Rattle.std.proofs.lemmas.Result.{on_ok_weaker}
use Rattle.uhura_plan.specs.Refusals.{Answers}
use Rattle.uhura_gen.specs.Items.{priced, step}
use Rattle.uhura_gen.specs.Numbered.{IsNumbered, HasRequirements}
use Rattle.uhura_gen.proofs.Adding.{handed_on}
use Rattle.uhura_gen.proofs.Numbering.{numbered_requirement}
use Rattle.uhura_gen.proofs.Making.{kept, step_answer, step_stated, adds_requirement, one_more_step, step_place}
use Rattle.uhura_gen.proofs.requirements.add_step.Goals as goal

pub unrefused-requires : goal.unrefused-requires
unrefused-requires c =
    subst (λ o. Answers o c.add_requirement.result)
    (step_answer c.args.plan.now c.name_of.result c.name_of-2.result c.name_of-3.result c.priced.result c.priced-2.result c.span-span.result c.args.generator.now.x c.args.place
    (record {
      name_is = c.name_of.ensures;
      from_is = c.name_of-2.ensures;
      to_is = c.name_of-3.ensures;
      lower_is = c.priced.ensures.side ∙ ap (λ b. priced b c.span-span.result.lower_price) (kept c.span-span.result.lower c.span-span.ensures.within.lower);
      upper_is = c.priced-2.ensures.side ∙ ap (λ b. priced b c.span-span.result.upper_price) (kept c.span-span.result.upper c.span-span.ensures.within.upper);
      span_is = c.span-span.ensures.span;
      ordered = c.span-span.ensures.within.ordered;
    })
    c.requires.numbered c.requires.names c.requires.events c.requires.few)
    c.add_requirement.ensures.answer

pub returns-clause-step : goal.returns-clause-step
returns-clause-step c =
    handed_on c.unrefused.result c.add_requirement.result c.unrefused.ensures
    (adds_requirement c.args.plan.now c.add_requirement.new.self _ (step c.args.generator.now.x c.args.place)
    (step_stated c.args.plan.now c.name_of.result c.name_of-2.result c.name_of-3.result c.priced.result c.priced-2.result c.span-span.result c.args.generator.now.x c.args.place
    (record {
      name_is = c.name_of.ensures;
      from_is = c.name_of-2.ensures;
      to_is = c.name_of-3.ensures;
      lower_is = c.priced.ensures.side ∙ ap (λ b. priced b c.span-span.result.lower_price) (kept c.span-span.result.lower c.span-span.ensures.within.lower);
      upper_is = c.priced-2.ensures.side ∙ ap (λ b. priced b c.span-span.result.upper_price) (kept c.span-span.result.upper c.span-span.ensures.within.upper);
      span_is = c.span-span.ensures.span;
      ordered = c.span-span.ensures.within.ordered;
    })
    c.requires.numbered c.requires.names c.requires.events c.requires.few))
    c.add_requirement.ensures.ok

pub returns-clause-numbered : goal.returns-clause-numbered
returns-clause-numbered c =
    on_ok_weaker c.unrefused.result
    (λ is. subst IsNumbered (sym is) (numbered_requirement c.args.plan.now (step c.args.generator.now.x c.args.place) c.requires.numbered (step_place c.args.plan.now c.args.place c.requires.names)))
    (returns-clause-step c)

pub returns-clause-names : goal.returns-clause-names
returns-clause-names c =
    on_ok_weaker c.unrefused.result
    (λ is. subst (λ p. HasRequirements p (c.args.place + 1) 0) (sym is) (one_more_step c.args.plan.now (step c.args.generator.now.x c.args.place) c.args.place c.requires.names refl))
    (returns-clause-step c)
