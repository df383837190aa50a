use Rattle.std.proofs.Common.{sym, arith}
use Rattle.uhura_choice.proofs.Costs.{picked-none, picked-more}
use Rattle.uhura_choice.proofs.cost.picked_cost.Goals as goal

pub loop-place-init : goal.loop-place-init
loop-place-init c = (sym (picked-none c.args.plan.now.choices), omega arith)

pub loop-place-preserved : goal.loop-place-preserved
loop-place-preserved c = (
  omega (
    arith,
    c.loop-place.invariant.0,
    c.cost_at-cost.ensures.cost,
    picked-more c.args.plan.now.choices c.entries-picks.result.now c.loop-place.place (omega (arith, c.loop-place-test.true)),
  ),
  omega (arith, c.loop-place.invariant.1, c.cost_at-cost.ensures.small),
)
