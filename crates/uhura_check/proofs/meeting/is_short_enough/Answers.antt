use Rattle.std.proofs.Common.{◌≡◌, to_z, of_z, ap, ◌∙◌, arith}
use Rattle.std.specs.Int.{w64, w128}
use Rattle.std.proofs.lemmas.Int.{ints}
use Rattle.uhura_worst.specs.Units.{side_units}
use Rattle.uhura_relax.specs.Schedule.{proposal_with, scheduled_time}
use Rattle.uhura_check.proofs.Meetings.{short-decided}
use Rattle.uhura_check.proofs.meeting.is_short_enough.Goals as goal

pub returns : goal.returns
returns c = λ branch.
    let given : to_z w64 (of_z w64 c.in-Some.most) ≡ c.in-Some.most = omega (arith, ints) in
    let from : to_z w128 (of_z w128 c.earliest-from.result) ≡ c.earliest-from.result = omega (arith, ints, c.earliest-from.ensures.least, c.earliest-from.ensures.most) in
    let to : to_z w128 (of_z w128 c.latest-to.result) ≡ c.latest-to.result = omega (arith, ints, c.latest-to.ensures.least, c.latest-to.ensures.most) in
    short-decided c.args.plan.now (proposal_with branch c.args.loosening.now (scheduled_time c.args.times.now)) c.args.requirement.now c.is_near.result (to_z w64 (of_z w64 c.in-Some.most)) c.units-units.result
    (to_z w128 (of_z w128 c.earliest-from.result)) (to_z w128 (of_z w128 c.latest-to.result)) c.in-Some.most c.in-Some.is given (c.units-units.ensures.units ∙ ap (side_units c.args.loosening.now) c.requirement_side.ensures)
    (from ∙ c.earliest-from.ensures.time branch) (to ∙ c.latest-to.ensures.time branch) c.is_near.ensures
