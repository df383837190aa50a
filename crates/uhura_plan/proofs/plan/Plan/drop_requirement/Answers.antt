-- The requirement of the name is taken out, and the others stay sound.
use Rattle.uhura_plan.proofs.Dropped.{view-without_requirement, HoldsPlan-without_requirement}
use Rattle.uhura_plan.proofs.plan.Plan.drop_requirement.Goals as goal

pub invariant_of-self : goal.invariant_of-self
invariant_of-self c =
    HoldsPlan-without_requirement c.args.name c.self.view_is c.self.invariant c.in-Some.place c.in-Some.ensures.index c.shift_remove_index.ensures.entries

pub returns-clause-ok : goal.returns-clause-ok
returns-clause-ok c =
    view-without_requirement c.args.name c.self.view_is c.self.invariant c.in-Some.place c.in-Some.ensures.index c.shift_remove_index.ensures.entries
