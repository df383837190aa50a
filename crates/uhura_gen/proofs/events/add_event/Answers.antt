-- The name is new, and with it there is one event more.
use Rattle.std.proofs.Common.{subst}
use Rattle.uhura_plan.specs.Refusals.{Answers}
use Rattle.uhura_gen.proofs.Adding.{handed_on}
use Rattle.uhura_gen.proofs.Making.{event_answer, next_events}
use Rattle.uhura_gen.proofs.events.add_event.Goals as goal

pub unrefused-requires : goal.unrefused-requires
unrefused-requires c =
    subst (λ o. Answers o c.add_event.result)
    (event_answer c.args.plan.now c.name_of.result c.args.place c.requires.earlier c.name_of.ensures c.requires.few)
    c.add_event.ensures.answer

pub returns : goal.returns
returns c =
    handed_on c.unrefused.result c.add_event.result c.unrefused.ensures
    (next_events c.args.plan.now c.add_event.new.self c.name_of.result c.args.place c.requires.earlier c.name_of.ensures)
    c.add_event.ensures.ok
