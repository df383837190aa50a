use Rattle.std.proofs.Common.{arith}
use Rattle.uhura_check.proofs.Costs.{narrowings-same}
use Rattle.uhura_check.proofs.cost.proposal_cost.Goals as goal

pub returns : goal.returns
returns c = λ times. omega (
  arith,
  c.picked_cost.ensures,
  c.requirements_cost.ensures.cost,
  c.durations_cost.ensures.cost,
  narrowings-same c.args.branch.now c.args.loosening.now times 0 c.args.plan.now.uncertains,
)
