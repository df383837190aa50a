use Rattle.std.proofs.Common.{ℕ, List, subst}
use Rattle.uhura_plan.specs.Refusals.{Answers}
use Rattle.uhura_veto.specs.declared.item.ItemKind.{ItemKind}
use Rattle.uhura_veto.specs.Refusals.{cap_refusal}
use Rattle.uhura_line.specs.Reads.{name_of}
use Rattle.uhura_command.specs.Apply.{kind_named}
use Rattle.uhura_command.proofs.Applying.{units_within, answers_first}
use Rattle.uhura_command.proofs.state.apply.veto.Goals as goal

pub cap-requires : goal.cap-requires
cap-requires c = record { units = units_within _ _ _ _ _ c.requires.command c.in-Cap.is }

-- the answer is passed on
pub returns-in-Cap-clause-answer : goal.returns-in-Cap-clause-answer
returns-in-Cap-clause-answer c =
    let cap = c.in-Cap in
    let first = λ (item : ItemKind × List ℕ). cap_refusal c.args.plan.now c.args.vetoes.now cap.name item.0 item.1 in
    let named : ItemKind × List ℕ = (kind_named cap.item, name_of cap.item) in
    let answered : Answers (first named) c.cap.result =
    subst (λ item. Answers (first item) c.cap.result) c.kind_and_name-kind.ensures c.cap.ensures.answer in
    rw cap.is (answers_first (first named) c.cap.result c.pass_on-in-Cap.result answered c.pass_on-in-Cap.ensures)

pub returns-in-Withdraw-clause-kept : goal.returns-in-Withdraw-clause-kept
returns-in-Withdraw-clause-kept c = c.withdraw.ensures.kept c.args.plan.now
