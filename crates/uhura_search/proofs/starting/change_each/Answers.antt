use Rattle.uhura_search.proofs.Learns.{some-both, some-stops}
use Rattle.uhura_search.proofs.starting.change_each.Goals as goal

pub returns-in_err-change_at-clause-stops : goal.returns-in_err-change_at-clause-stops
returns-in_err-change_at-clause-stops c = some-stops c.args.plan.now.choices c.args.learning.now c.loop-place.learning c.change_at.new.learning c.loop-place.invariant.learns c.in_err-change_at.ensures.stops

pub loop-place-preserved : goal.loop-place-preserved
loop-place-preserved c =
    let tries = c.in_ok-change_at.ensures.tries in
    record {
      learns = some-both c.args.plan.now.choices c.args.learning.now c.loop-place.learning c.change_at.new.learning c.loop-place.invariant.learns tries.learns;
      reached = tries.reached;
      ready = c.in_ok-change_at.ensures.ready;
    }
