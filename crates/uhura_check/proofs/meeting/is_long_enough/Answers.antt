use Rattle.std.proofs.Common.{◌≡◌, to_z, of_z, ap, ◌∙◌, arith}
use Rattle.std.specs.Int.{w64, w128}
use Rattle.std.proofs.lemmas.Int.{ints}
use Rattle.uhura_worst.specs.Units.{side_units}
use Rattle.uhura_relax.specs.Schedule.{proposal_with, scheduled_time}
use Rattle.uhura_check.proofs.Meetings.{long-decided}
use Rattle.uhura_check.proofs.meeting.is_long_enough.Goals as goal

pub returns : goal.returns
returns c = λ branch.
    let given : to_z w64 (of_z w64 c.in-Some.least) ≡ c.in-Some.least = omega (arith, ints) in
    let from : to_z w128 (of_z w128 c.latest-from.result) ≡ c.latest-from.result = omega (arith, ints, c.latest-from.ensures.least, c.latest-from.ensures.most) in
    let to : to_z w128 (of_z w128 c.earliest-to.result) ≡ c.earliest-to.result = omega (arith, ints, c.earliest-to.ensures.least, c.earliest-to.ensures.most) in
    long-decided c.args.plan.now (proposal_with branch c.args.loosening.now (scheduled_time c.args.times.now)) c.args.requirement.now c.is_apart.result (to_z w64 (of_z w64 c.in-Some.least)) c.units-units.result
    (to_z w128 (of_z w128 c.latest-from.result)) (to_z w128 (of_z w128 c.earliest-to.result)) c.in-Some.least c.in-Some.is given (c.units-units.ensures.units ∙ ap (side_units c.args.loosening.now) c.requirement_side.ensures)
    (from ∙ c.latest-from.ensures.time branch) (to ∙ c.earliest-to.ensures.time branch) c.is_apart.ensures
