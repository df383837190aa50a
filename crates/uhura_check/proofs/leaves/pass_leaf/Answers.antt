use Rattle.std.proofs.Common.{◌≡◌, ◌+◌, List, Some, None, Option, refl, sym, subst, arith}
use Rattle.uhura_plan.specs.Lists.{Lists}
use Rattle.uhura_choice.specs.declared.prefix.Pick.{Pick}
use Rattle.uhura_choice.specs.Branch.{IsPrefix}
use Rattle.uhura_shows.specs.Behind.{CoversUpTo, IsBehind}
use Rattle.uhura_check.specs.declared.failure.Failure.{Failure}
use Rattle.uhura_check.specs.Confirmed.{reason_of}
use Rattle.uhura_check.specs.Conditions.{ComesNext}
use Rattle.uhura_check.specs.Table.{reason_asks, head_line}
use Rattle.uhura_check.specs.Failure.{told, Tells}
use Rattle.uhura_check.specs.Walked.{IsNextPrefix}
use Rattle.uhura_check.proofs.Leaving.{moved, order-told, reason-told, leaf-passed}
use Rattle.uhura_check.proofs.leaves.pass_leaf.Goals as goal

pub returns-in_default : goal.returns-in_default
returns-in_default c = λ before line covers is_told.
    let d = c.args.document.now in
    let plan = c.plan_of-plan.result.now in
    let here = subst (λ (p : Lists). CoversUpTo p.choices before c.args.reached.now.next) (sym c.plan_of-plan.ensures.plan) covers in
    order-told d c.args.answer.now before line c.args.leaf.now _
    (λ comes. c.in_default.ensures.next before here
    (moved (λ p ps. ComesNext p.choices c.args.answer.now before ps) d.state.plan plan c.args.leaf.now.prefix c.as_slice-picks.result.now (sym c.plan_of-plan.ensures.plan) (sym c.as_slice-picks.ensures) comes))
    refl is_told

pub reason_failure-requires-clause-prefix : goal.reason_failure-requires-clause-prefix
reason_failure-requires-clause-prefix c = subst (λ (p : Lists). IsPrefix p.choices c.in-Some.prefix) c.plan_of-plan.ensures.plan c.in-Some.ensures.prefix

pub next_branch_behind-requires : goal.next_branch_behind-requires
next_branch_behind-requires c = c.in-Some.ensures.prefix

pub returns-in-Some-reason_failure : goal.returns-in-Some-reason_failure
returns-in-Some-reason_failure c = λ before line covers is_told.
    let d = c.args.document.now in
    let leaf = c.args.leaf.now in
    let answer = c.args.answer.now in
    let plan = c.plan_of-plan.result.now in
    let here = subst (λ (p : Lists). CoversUpTo p.choices before c.args.reached.now.next) (sym c.plan_of-plan.ensures.plan) covers in
    let next : IsNextPrefix d.state.plan.choices answer before leaf.prefix c.in-Some.prefix =
    moved (λ p ps. IsNextPrefix p.choices answer before ps c.in-Some.prefix) plan d.state.plan c.as_slice-picks.result.now leaf.prefix c.plan_of-plan.ensures.plan c.as_slice-picks.ensures (c.in-Some.ensures.next before here) in
    let own : c.line_after-own.result ≡ told (line + 1) = omega (arith, c.line_after-own.ensures, is_told) in
    reason-told d answer before line leaf c.in-Some-reason_failure.failure next.next
    (subst (λ (ps : List Pick). Tells d.state answer (reason_asks ps (line + 1) (head_line d (line + 1) leaf.reason) (reason_of d.shared leaf.reason)) (Some c.in-Some-reason_failure.failure)) next.picked
    (subst (λ (found : Option Failure). Tells d.state answer (reason_asks c.in-Some.prefix (line + 1) (head_line d (line + 1) leaf.reason) (reason_of d.shared leaf.reason)) found) c.in-Some-reason_failure.is
    (c.reason_failure.ensures (line + 1) own)))

pub returns-in-None : goal.returns-in-None
returns-in-None c = λ before line covers is_told.
    let d = c.args.document.now in
    let leaf = c.args.leaf.now in
    let answer = c.args.answer.now in
    let plan = c.plan_of-plan.result.now in
    let here = subst (λ (p : Lists). CoversUpTo p.choices before c.args.reached.now.next) (sym c.plan_of-plan.ensures.plan) covers in
    let next : IsNextPrefix d.state.plan.choices answer before leaf.prefix c.in-Some.prefix =
    moved (λ p ps. IsNextPrefix p.choices answer before ps c.in-Some.prefix) plan d.state.plan c.as_slice-picks.result.now leaf.prefix c.plan_of-plan.ensures.plan c.as_slice-picks.ensures (c.in-Some.ensures.next before here) in
    let own : c.line_after-own.result ≡ told (line + 1) = omega (arith, c.line_after-own.ensures, is_told) in
    let behind : IsBehind d.state.plan.choices leaf.prefix c.next_branch_behind.result =
    moved (λ p ps. IsBehind p.choices ps c.next_branch_behind.result) plan d.state.plan c.in-Some.prefix leaf.prefix c.plan_of-plan.ensures.plan next.picked c.next_branch_behind.ensures in
    leaf-passed d answer before line leaf (record { next = c.next_branch_behind.result; line = c.line_after-in-None.result }) c.args.reached.now.next c.plan_of-plan.ensures.fits.state.plan covers next.next
    (subst (λ (ps : List Pick). Tells d.state answer (reason_asks ps (line + 1) (head_line d (line + 1) leaf.reason) (reason_of d.shared leaf.reason)) None) next.picked
    (subst (λ (found : Option Failure). Tells d.state answer (reason_asks c.in-Some.prefix (line + 1) (head_line d (line + 1) leaf.reason) (reason_of d.shared leaf.reason)) found) c.in-None.is
    (c.reason_failure.ensures (line + 1) own)))
    behind (omega (arith, c.line_after-in-None.ensures, c.line_after.ensures, c.line_after-own.ensures, c.edge_lines.ensures d.state, is_told))
