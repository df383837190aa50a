use Rattle.std.proofs.Common.{ap, sym, ◌∙◌, sum_by, arith}
use Rattle.std.specs.Prelude.{option_copied}
use Rattle.std.proofs.lemmas.List.{take_all}
use Rattle.uhura_check.specs.SideCosts.{loosened_cost}
use Rattle.uhura_check.proofs.Costs.{sum-more}
use Rattle.uhura_check.proofs.cost.requirements_cost.Goals as goal

pub loop-place-preserved : goal.loop-place-preserved
loop-place-preserved c =
    let more = sum-more (loosened_cost c.args.loosening.now) c.args.plan.now.requirements c.loop-place.place c.unwrap-requirement.result.now (sym c.requirement.ensures ∙ ap option_copied c.unwrap-requirement.ensures) in
    record {
      cost = omega (arith, more, c.loop-place.invariant.cost, c.requirement_cost-sum.ensures.cost);
      small = omega (arith, c.loop-place.invariant.small, c.requirement_cost-sum.ensures.small);
    }

pub returns-clause-cost : goal.returns-clause-cost
returns-clause-cost c =
    c.loop-place.invariant.cost
    ∙ ap (sum_by (loosened_cost c.args.loosening.now)) (take_all c.loop-place.place c.args.plan.now.requirements (omega (arith, c.loop-place-test.false, c.requirements-place-end.ensures.count)))

pub returns-clause-small : goal.returns-clause-small
returns-clause-small c = omega (arith, c.loop-place.invariant.small, c.loop-place.auto.place-end, c.requirements-place-end.ensures.count, c.requirements-place-end.ensures.sound.counts.requirements)
