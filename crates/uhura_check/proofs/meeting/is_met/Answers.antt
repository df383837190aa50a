use Rattle.std.proofs.Common.{sym, ◌∙◌}
use Rattle.uhura_relax.specs.Schedule.{proposal_with, scheduled_time}
use Rattle.uhura_check.proofs.Meetings.{active-decided}
use Rattle.uhura_check.proofs.meeting.is_met.Goals as goal

pub returns-else-not-holds : goal.returns-else-not-holds
returns-else-not-holds c =
    active-decided c.args.plan.now c.choices.ensures.sound (proposal_with c.args.branch.now c.args.loosening.now (scheduled_time c.args.times.now)) c.args.requirement.now c.is_met_at_extremes.result
    c.requires.there c.requires.ranges (sym c.holds.ensures ∙ c.if-not-holds.false) (c.is_met_at_extremes.ensures c.args.branch.now)
