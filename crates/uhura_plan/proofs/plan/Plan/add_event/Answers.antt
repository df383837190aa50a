-- The name is no event's, so it goes behind the others, and the plan stays sound.
use Rattle.std.proofs.Common.{is_some, ap, sym, ◌∙◌}
use Rattle.uhura_plan.proofs.Events.{view-with_event, HoldsPlan-with_event}
use Rattle.uhura_plan.proofs.Refusals.{event_room}
use Rattle.uhura_plan.proofs.plan.Plan.add_event.Goals as goal

pub invariant_of-self-2 : goal.invariant_of-self-2
invariant_of-self-2 c =
    HoldsPlan-with_event _ _ _ _ _ _ c.args.name c.self.view_is (ap is_some (sym c.find_event.ensures) ∙ (sym c.is_some.ensures ∙ c.if-is_some.false))
    c.in_ok-insert.ensures.keys c.self.invariant c.bytes.ensures.name (event_room c.args.self.now (sym c.in_default.ensures))

pub returns-clause-ok : goal.returns-clause-ok
returns-clause-ok c =
    view-with_event _ _ _ _ _ _ c.args.name c.self.view_is (ap is_some (sym c.find_event.ensures) ∙ (sym c.is_some.ensures ∙ c.if-is_some.false))
    c.in_ok-insert.ensures.keys
