use Rattle.std.proofs.Common.{refl, sym, ap, ◌∙◌, length, arith}
use Rattle.uhura_veto.specs.State.{State}
use Rattle.uhura_relax.specs.Schedule.{proposal_with, scheduled_time}
use Rattle.uhura_check.specs.Conditions.{IsMet}
use Rattle.uhura_check.proofs.Proposals.{picked-of, room-of, rooms-of, cost-of, rooms-leave, first-of, met-of, first-within, room-told, cost-told, met-told, none-told, question-told, side-line, requirement-line}
use Rattle.uhura_check.proofs.stating.proposal_failure.Goals as goal

pub returns-in-Some : goal.returns-in-Some
returns-in-Some c = λ d is.
    let p = c.args.proposal.now in
    let state = c.args.state.now in
    let inside : State = record { plan = c.state.inside.plan; vetoes = c.state.inside.vetoes } in
    let picked = picked-of d p state inside c.args.branch.now is (sym c.state.view_is) c.requires in
    room-told d p picked _ c.in-Some.place (room-of d p state inside c.args.branch.now is (sym c.state.view_is) c.requires c.in-Some.place c.in-Some.ensures) refl
    (side-line d p state inside c.args.branch.now is (sym c.state.view_is) c.requires c.side_line-line.result (length c.as_slice.result.now) c.in-Some.place c.side_line-line.ensures (ap length c.as_slice.ensures))

pub returns-then-proposal_cost-proposal : goal.returns-then-proposal_cost-proposal
returns-then-proposal_cost-proposal c = λ d is.
    let p = c.args.proposal.now in
    let state = c.args.state.now in
    let inside : State = record { plan = c.state.inside.plan; vetoes = c.state.inside.vetoes } in
    let picked = picked-of d p state inside c.args.branch.now is (sym c.state.view_is) c.requires in
    let rooms = rooms-of d p state inside c.args.branch.now is (sym c.state.view_is) c.requires c.in_default.ensures in
    let costs = cost-of d p state inside c.args.branch.now is (sym c.state.view_is) c.requires c.proposal_cost.result c.proposal_cost.ensures in
    cost-told d p picked rooms _ (λ same. c.if-proposal_cost-proposal.true (costs ∙ same)) refl
    (question-told d state c.proposal_line.result is c.proposal_line.ensures (omega arith))

pub first_not_met-requires : goal.first_not_met-requires
first_not_met-requires c =
    let inside : State = record { plan = c.state.inside.plan; vetoes = c.state.inside.vetoes } in
    rooms-leave c.args.state.now inside c.args.branch.now c.args.proposal.now.loosening (scheduled_time c.as_slice-2.result.now) (sym c.state.view_is) c.choices.ensures.sound (c.in_default.ensures (scheduled_time c.as_slice-2.result.now))

pub requirement_line-requires : goal.requirement_line-requires
requirement_line-requires c =
    first-within (IsMet c.state.inside.plan (proposal_with c.args.branch.now c.args.proposal.now.loosening (scheduled_time c.as_slice-2.result.now))) c.state.inside.plan.requirements c.in-Some-first_not_met.place c.in-Some-first_not_met.ensures

pub returns-in-Some-first_not_met : goal.returns-in-Some-first_not_met
returns-in-Some-first_not_met c = λ d is.
    let p = c.args.proposal.now in
    let state = c.args.state.now in
    let inside : State = record { plan = c.state.inside.plan; vetoes = c.state.inside.vetoes } in
    let picked = picked-of d p state inside c.args.branch.now is (sym c.state.view_is) c.requires in
    let rooms = rooms-of d p state inside c.args.branch.now is (sym c.state.view_is) c.requires c.in_default.ensures in
    let costs = cost-of d p state inside c.args.branch.now is (sym c.state.view_is) c.requires c.proposal_cost.result c.proposal_cost.ensures in
    let found = c.in-Some-first_not_met in
    met-told d p picked rooms (sym costs ∙ c.if-proposal_cost-proposal.false) _ found.place
    (first-of d p state inside c.args.branch.now is (sym c.state.view_is) c.requires c.as_slice-2.result.now c.as_slice-2.ensures found.place found.ensures) refl
    (requirement-line d p state inside c.args.branch.now is (sym c.state.view_is) c.requires c.requirement_line.result found.place c.requirement_line.ensures (omega arith))

pub returns-in-None : goal.returns-in-None
returns-in-None c = λ d is.
    let p = c.args.proposal.now in
    let state = c.args.state.now in
    let inside : State = record { plan = c.state.inside.plan; vetoes = c.state.inside.vetoes } in
    let picked = picked-of d p state inside c.args.branch.now is (sym c.state.view_is) c.requires in
    let rooms = rooms-of d p state inside c.args.branch.now is (sym c.state.view_is) c.requires c.in_default.ensures in
    let costs = cost-of d p state inside c.args.branch.now is (sym c.state.view_is) c.requires c.proposal_cost.result c.proposal_cost.ensures in
    none-told d p picked rooms (sym costs ∙ c.if-proposal_cost-proposal.false) (met-of d p state inside c.args.branch.now is (sym c.state.view_is) c.requires c.as_slice-2.result.now c.as_slice-2.ensures c.in-None.ensures)
