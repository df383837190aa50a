use Rattle.std.proofs.Common.{ap, sym, ◌∙◌, arith}
use Rattle.std.specs.Prelude.{option_copied}
use Rattle.std.proofs.lemmas.List.{take_all}
use Rattle.uhura_worst.specs.Cost.{narrowings_cost}
use Rattle.uhura_check.specs.SideCosts.{with_units}
use Rattle.uhura_check.proofs.Costs.{narrowings-more}
use Rattle.uhura_check.proofs.cost.durations_cost.Goals as goal

pub loop-place-preserved : goal.loop-place-preserved
loop-place-preserved c =
    let more = narrowings-more c.args.loosening.now c.args.plan.now.uncertains c.loop-place.place c.unwrap-uncertain.result.now (sym c.uncertain.ensures ∙ ap option_copied c.unwrap-uncertain.ensures) in
    record {
      cost = omega (arith, more, c.loop-place.invariant.cost, c.duration_cost-sum.ensures.cost);
      small = omega (arith, c.loop-place.invariant.small, c.duration_cost-sum.ensures.small);
    }

pub returns-clause-cost : goal.returns-clause-cost
returns-clause-cost c =
    c.loop-place.invariant.cost
    ∙ ap (narrowings_cost 1 (with_units c.args.loosening.now) 0) (take_all c.loop-place.place c.args.plan.now.uncertains (omega (arith, c.loop-place-test.false, c.uncertains-place-end.ensures.count)))

pub returns-clause-small : goal.returns-clause-small
returns-clause-small c = omega (arith, c.loop-place.invariant.small, c.loop-place.auto.place-end, c.uncertains-place-end.ensures.count, c.uncertains-place-end.ensures.sound.counts.uncertains)
