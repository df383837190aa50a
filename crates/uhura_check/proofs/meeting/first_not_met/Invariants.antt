use Rattle.std.proofs.Common.{take}
use Rattle.std.specs.Prelude.{All}
use Rattle.uhura_relax.specs.Schedule.{proposal_with, scheduled_time}
use Rattle.uhura_check.specs.Conditions.{IsMet}
use Rattle.uhura_check.proofs.meeting.first_not_met.Given as goal

-- the requirements so far are met
abbrev pub invariant-loop-place : goal.invariant-loop-place
invariant-loop-place l = All (IsMet l.plan (proposal_with l.branch l.loosening (scheduled_time l.times))) (take l.place l.plan.requirements)
