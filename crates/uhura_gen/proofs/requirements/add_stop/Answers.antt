-- The name is new, the events and the literal are there, and with it there is one requirement more.
use Rattle.std.proofs.Common.{◌+◌, ◌-◌, ◌%◌, length, refl, subst, sym, ap, ◌∙◌}
use Rattle.std.proofs.lemmas.Result.{on_ok_weaker}
use Rattle.uhura_plan.specs.Refusals.{Answers}
use Rattle.uhura_gen.specs.Draws.{following}
use Rattle.uhura_gen.specs.Names.{alternative_name}
use Rattle.uhura_gen.specs.Items.{priced, stop}
use Rattle.uhura_gen.specs.Numbered.{IsNumbered, HasRequirements}
use Rattle.uhura_gen.proofs.Adding.{handed_on}
use Rattle.uhura_gen.proofs.Numbering.{numbered_requirement}
use Rattle.uhura_gen.proofs.Making.{kept, stop_answer, stop_stated, adds_requirement, one_more_stop, count_requirements}
use Rattle.uhura_gen.proofs.requirements.add_stop.Goals as goal

pub unrefused-requires : goal.unrefused-requires
unrefused-requires c =
    subst (λ o. Answers o c.add_requirement.result)
    (stop_answer c.args.plan.now c.name_of.result c.name_of-2.result c.name_of-3.result c.priced.result c.priced-2.result c.name_of-choice.result c.name_of-alternative.result c.span-span.result c.args.generator.now.x (length c.args.plan.now.events - 1) c.args.place
    (record {
      name_is = c.name_of.ensures;
      from_is = c.name_of-2.ensures;
      to_is = c.name_of-3.ensures;
      lower_is = c.priced.ensures.side ∙ ap (λ b. priced b c.span-span.result.lower_price) (kept c.span-span.result.lower c.span-span.ensures.within.lower);
      upper_is = c.priced-2.ensures.side ∙ ap (λ b. priced b c.span-span.result.upper_price) (kept c.span-span.result.upper c.span-span.ensures.within.upper);
      choice_is = c.name_of-choice.ensures;
      alternative_is = c.name_of-alternative.ensures ∙ ap alternative_name (c.draw-pick.ensures.draw ∙ ap (λ y. following y % 3) c.span-span.ensures.number);
      span_is = c.span-span.ensures.span;
      ordered = c.span-span.ensures.within.ordered;
    })
    (record {
      numbered = c.requires.numbered;
      names = c.requires.names;
      choices = c.requires.choices;
      duration = c.requires.duration;
      event = c.requires.event;
      few = c.requires.few;
      steps_are = refl;
      durations = c.requires.durations;
    }))
    c.add_requirement.ensures.answer

pub returns-clause-stop : goal.returns-clause-stop
returns-clause-stop c =
    handed_on c.unrefused.result c.add_requirement.result c.unrefused.ensures
    (adds_requirement c.args.plan.now c.add_requirement.new.self _ (stop c.args.generator.now.x (length c.args.plan.now.events - 1 + c.args.place) c.args.place)
    (stop_stated c.args.plan.now c.name_of.result c.name_of-2.result c.name_of-3.result c.priced.result c.priced-2.result c.name_of-choice.result c.name_of-alternative.result c.span-span.result c.args.generator.now.x (length c.args.plan.now.events - 1) c.args.place
    (record {
      name_is = c.name_of.ensures;
      from_is = c.name_of-2.ensures;
      to_is = c.name_of-3.ensures;
      lower_is = c.priced.ensures.side ∙ ap (λ b. priced b c.span-span.result.lower_price) (kept c.span-span.result.lower c.span-span.ensures.within.lower);
      upper_is = c.priced-2.ensures.side ∙ ap (λ b. priced b c.span-span.result.upper_price) (kept c.span-span.result.upper c.span-span.ensures.within.upper);
      choice_is = c.name_of-choice.ensures;
      alternative_is = c.name_of-alternative.ensures ∙ ap alternative_name (c.draw-pick.ensures.draw ∙ ap (λ y. following y % 3) c.span-span.ensures.number);
      span_is = c.span-span.ensures.span;
      ordered = c.span-span.ensures.within.ordered;
    })
    (record {
      numbered = c.requires.numbered;
      names = c.requires.names;
      choices = c.requires.choices;
      duration = c.requires.duration;
      event = c.requires.event;
      few = c.requires.few;
      steps_are = refl;
      durations = c.requires.durations;
    })))
    c.add_requirement.ensures.ok

pub returns-clause-numbered : goal.returns-clause-numbered
returns-clause-numbered c =
    on_ok_weaker c.unrefused.result
    (λ is. subst IsNumbered (sym is) (numbered_requirement c.args.plan.now (stop c.args.generator.now.x (length c.args.plan.now.events - 1 + c.args.place) c.args.place) c.requires.numbered
    (sym (count_requirements c.args.plan.now (length c.args.plan.now.events - 1) c.args.place c.requires.names))))
    (returns-clause-stop c)

pub returns-clause-names : goal.returns-clause-names
returns-clause-names c =
    on_ok_weaker c.unrefused.result
    (λ is. subst (λ p. HasRequirements p (length c.args.plan.now.events - 1) (c.args.place + 1)) (sym is)
    (one_more_stop c.args.plan.now (stop c.args.generator.now.x (length c.args.plan.now.events - 1 + c.args.place) c.args.place) (length c.args.plan.now.events - 1) c.args.place c.requires.names refl))
    (returns-clause-stop c)
