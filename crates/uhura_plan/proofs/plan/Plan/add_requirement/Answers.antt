-- The name is no requirement's, so the one made goes behind the others, and the plan stays sound.
use Rattle.std.proofs.Common.{sym}
use Rattle.uhura_plan.proofs.Requirements.{view-with_requirement, HoldsPlan-with_requirement}
use Rattle.uhura_plan.proofs.plan.Plan.add_requirement.Goals as goal

pub invariant_of-self-2 : goal.invariant_of-self-2
invariant_of-self-2 c =
    HoldsPlan-with_requirement _ _ _ _ _ _ c.args.name c.args.from c.args.to c.args.lower c.args.upper c.args.guard.now c.requirement_of-made.result _
    c.self.view_is c.self.invariant c.in_ok-insert.ensures.entries (sym c.in_default.ensures) c.requirement_of-made.ensures.stated
    c.bytes.ensures.name c.requires.lower c.requires.upper c.requirement_of-made.ensures.guard c.requirement_of-made.ensures.slot

pub returns-clause-ok : goal.returns-clause-ok
returns-clause-ok c = record {
  made = c.requirement_of-made.result;
  found = c.requirement_of-made.ensures.stated;
  lists =
      view-with_requirement _ _ _ _ _ _ c.args.name c.args.from c.args.to c.args.lower c.args.upper c.args.guard.now c.requirement_of-made.result _
      c.self.view_is c.self.invariant c.in_ok-insert.ensures.entries (sym c.in_default.ensures) c.requirement_of-made.ensures.stated;
}
