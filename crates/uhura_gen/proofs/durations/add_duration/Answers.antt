-- The names are new, the start is there, and with it there is one duration more.
use Rattle.std.proofs.Common.{subst, sym}
use Rattle.std.proofs.lemmas.Result.{on_ok_weaker}
use Rattle.uhura_plan.specs.Refusals.{Answers}
use Rattle.uhura_gen.specs.Numbered.{IsNumbered}
use Rattle.uhura_gen.proofs.Adding.{handed_on}
use Rattle.uhura_gen.proofs.Numbering.{numbered_duration}
use Rattle.uhura_gen.proofs.Making.{kept, TakesDuration, duration_answer, adds_duration}
use Rattle.uhura_gen.proofs.durations.add_duration.Goals as goal

takes : (c : goal.After-unrefused) → TakesDuration c.args.plan.now c.args.place
takes c = record { numbered = c.requires.numbered; next = c.requires.place; event = c.requires.event; few = c.requires.few }

pub unrefused-requires : goal.unrefused-requires
unrefused-requires c =
    subst (λ o. Answers o c.add_uncertain.result)
    (duration_answer c.args.plan.now c.name_of.result c.name_of-2.result c.name_of-3.result _ _ c.plain_rate.result c.plain_rate-2.result c.span-span.result c.args.generator.now.x c.args.place
    (record {
      name_is = c.name_of.ensures;
      start_is = c.name_of-2.ensures;
      end_is = c.name_of-3.ensures;
      lower_is = kept c.span-span.result.lower c.span-span.ensures.within.lower;
      upper_is = kept c.span-span.result.upper c.span-span.ensures.within.upper;
      low_is = c.plain_rate.ensures;
      high_is = c.plain_rate-2.ensures;
      span_is = c.span-span.ensures.span;
      ordered = c.span-span.ensures.within.ordered;
    })
    (record { numbered = c.requires.numbered; next = c.requires.place; event = c.requires.event; few = c.requires.few }))
    c.add_uncertain.ensures.answer

pub returns-clause-duration : goal.returns-clause-duration
returns-clause-duration c =
    handed_on c.unrefused.result c.add_uncertain.result c.unrefused.ensures
    (adds_duration c.args.plan.now c.add_uncertain.new.self c.name_of.result c.name_of-2.result c.name_of-3.result _ _ c.plain_rate.result c.plain_rate-2.result c.span-span.result c.args.generator.now.x c.args.place
    (record {
      name_is = c.name_of.ensures;
      start_is = c.name_of-2.ensures;
      end_is = c.name_of-3.ensures;
      lower_is = kept c.span-span.result.lower c.span-span.ensures.within.lower;
      upper_is = kept c.span-span.result.upper c.span-span.ensures.within.upper;
      low_is = c.plain_rate.ensures;
      high_is = c.plain_rate-2.ensures;
      span_is = c.span-span.ensures.span;
      ordered = c.span-span.ensures.within.ordered;
    })
    (takes c))
    c.add_uncertain.ensures.ok

pub returns-clause-numbered : goal.returns-clause-numbered
returns-clause-numbered c =
    on_ok_weaker c.unrefused.result
    (λ is. subst IsNumbered (sym is) (numbered_duration c.args.plan.now c.args.generator.now.x c.args.place c.requires.numbered c.requires.place))
    (returns-clause-duration c)
