-- A requirement that isn't refused names literals that are there.
use Rattle.uhura_plan.proofs.Refusals.{unrefused_requirement, all_known}
use Rattle.uhura_plan.proofs.plan.Plan.requirement_of.Goals as goal

pub guard_of-requires-clause-known : goal.guard_of-requires-clause-known
guard_of-requires-clause-known c =
    all_known c.args.self.now 3 c.args.guard.now (unrefused_requirement c.args.self.now c.args.name c.args.from c.args.to c.args.lower c.args.upper c.args.guard.now c.requires).known
