use Rattle.std.proofs.Common.{◌≡◌, List, Option, Some, refl, sym, ◌∙◌, subst, length, arith}
use Rattle.uhura_plan.specs.declared.guard.Literal.{Literal}
use Rattle.uhura_veto.specs.State.{State}
use Rattle.uhura_cert.specs.declared.document.Proposal.{Proposal as Stated}
use Rattle.uhura_check.specs.declared.refusal.Code.TheVariants as code
use Rattle.uhura_check.specs.declared.failure.Failure.{Failure}
use Rattle.uhura_check.specs.Confirmed.{answer_of, picks_of}
use Rattle.uhura_check.specs.Conditions.{IsPicked}
use Rattle.uhura_check.specs.Table.{proposal_asks, answer_asks}
use Rattle.uhura_check.specs.Failure.{IsToldFirst, Tells}
use Rattle.uhura_check.proofs.Proposals.{picks-told, answered-by, question-told}
use Rattle.uhura_check.proofs.stating.stated_answer.Goals as goal

pub returns-in_default-picked_branch-clause-found : goal.returns-in_default-picked_branch-clause-found
returns-in_default-picked_branch-clause-found c =
    let d = c.args.document.now in
    let p = c.in-Some.proposal in
    let stated : d.answer ≡ Some p = sym c.answer_of.ensures.answer ∙ c.in-Some.is in
    let failure : Failure = record { code = code.Pick; line = c.proposal_line.result } in
    subst (λ (a : Option Stated). IsToldFirst d.state (answer_of d) (answer_asks d a) failure) (sym stated)
    (picks-told d p failure
    (λ picked. c.in_default-picked_branch.ensures
    (subst (λ (ls : List Literal). IsPicked c.state_of-state.result.now (picks_of ls (length c.state_of-state.result.now.plan.choices))) (sym c.as_slice.ensures)
    (subst (λ (s : State). IsPicked s (picks_of p.picks (length s.plan.choices))) (sym c.state_of-state.ensures.state) picked)))
    refl (question-told d c.state_of-state.result.now c.proposal_line.result (sym c.state_of-state.ensures.state) c.proposal_line.ensures (omega arith)))

pub returns-in-None-clause-found : goal.returns-in-None-clause-found
returns-in-None-clause-found c =
    let d = c.args.document.now in
    let p = c.in-Some.proposal in
    answered-by d p c.state_of-state.result.now c.in-Some-picked_branch.branch (sym c.answer_of.ensures.answer ∙ c.in-Some.is) (sym c.state_of-state.ensures.state) c.as_slice.result.now c.as_slice.ensures c.in-Some-picked_branch.ensures
    (subst (λ found. Tells d.state (answer_of d) (proposal_asks d p) found) c.in-None.is (c.proposal_failure.ensures d (sym c.state_of-state.ensures.state)))
