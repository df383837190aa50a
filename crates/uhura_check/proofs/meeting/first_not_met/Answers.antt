use Rattle.std.proofs.Common.{All, ap, sym, ◌∙◌, subst, arith}
use Rattle.std.specs.Prelude.{option_copied}
use Rattle.std.proofs.lemmas.List.{take_all}
use Rattle.std.proofs.lemmas.List.Elements.{All-more}
use Rattle.std.proofs.lemmas.Option.{slice_get_within, get_or_from_slice_get}
use Rattle.uhura_relax.specs.Schedule.{proposal_with, scheduled_time}
use Rattle.uhura_check.specs.Conditions.{IsMet}
use Rattle.uhura_check.proofs.meeting.first_not_met.Goals as goal

pub loop-place-preserved : goal.loop-place-preserved
loop-place-preserved c =
    let plan = c.args.plan.now in
    let q = proposal_with c.args.branch.now c.args.loosening.now (scheduled_time c.args.times.now) in
    let r = c.unwrap-requirement.result.now in
    let there = sym c.requirement.ensures ∙ ap option_copied c.unwrap-requirement.ensures in
    All-more (IsMet plan q) plan.requirements c.loop-place.place r (slice_get_within plan.requirements c.loop-place.place r there) c.loop-place.invariant
    (subst (IsMet plan q) (sym (get_or_from_slice_get plan.requirements c.loop-place.place r r there)) (c.is_met.ensures.0 c.if-not-is_met.false))

pub returns : goal.returns
returns c =
    subst (λ l. All (IsMet c.args.plan.now (proposal_with c.args.branch.now c.args.loosening.now (scheduled_time c.args.times.now))) l)
    (take_all c.loop-place.place c.args.plan.now.requirements (omega (arith, c.loop-place-test.false, c.requirements-place-end.ensures.count))) c.loop-place.invariant
