use Rattle.std.proofs.Common.{sym}
use Rattle.uhura_worst.proofs.SoundItems.{requirement_in-placed, uncertain-placed, uncertain-among}
use Rattle.uhura_worst.proofs.edges.edge.Goals as goal

pub requirement_edge-requires : goal.requirement_edge-requires
requirement_edge-requires c = requirement_in-placed c.args.plan.now c.in-Requirement.slot c.in-Some.requirement.now c.requirements.ensures.sound (sym c.in-Some.ensures)

pub duration_edge-requires-clause-place : goal.duration_edge-requires-clause-place
duration_edge-requires-clause-place c = uncertain-placed c.args.plan.now c.in-Uncertain.duration c.in-Some-uncertain.uncertain.now c.requirements.ensures.sound (sym c.in-Some-uncertain.ensures)

pub duration_edge-requires-clause-sound : goal.duration_edge-requires-clause-sound
duration_edge-requires-clause-sound c = uncertain-among c.args.plan.now c.in-Uncertain.duration c.in-Some-uncertain.uncertain.now c.requirements.ensures.sound (sym c.in-Some-uncertain.ensures)
