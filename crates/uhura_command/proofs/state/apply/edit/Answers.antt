-- Each number of the command is within the limits of its place, as the plan's edit asks.
use Rattle.uhura_line.proofs.CommandLimits.{uncertain_within, choice_within, require_within, new_bound_within, new_price_within, new_rate_within, range_within, new_cost_within}
use Rattle.std.proofs.Common.{rules, ℕ, List, subst}
use Rattle.uhura_plan.specs.Refusals.{Answers, uncertain_refusal, requirement_refusal, bound_refusal}
use Rattle.uhura_command.proofs.Applying.{answers_first, answers_always}
use Rattle.uhura_command.proofs.state.apply.edit.Goals as goal

pub add_uncertain-requires-clause-lower : goal.add_uncertain-requires-clause-lower
add_uncertain-requires-clause-lower c = (uncertain_within _ _ _ _ _ _ _ _ c.requires.command c.in-Uncertain.is).lower

pub add_uncertain-requires-clause-upper : goal.add_uncertain-requires-clause-upper
add_uncertain-requires-clause-upper c = (uncertain_within _ _ _ _ _ _ _ _ c.requires.command c.in-Uncertain.is).upper

pub add_uncertain-requires-clause-lower_rate : goal.add_uncertain-requires-clause-lower_rate
add_uncertain-requires-clause-lower_rate c = (uncertain_within _ _ _ _ _ _ _ _ c.requires.command c.in-Uncertain.is).lower_rate

pub add_uncertain-requires-clause-upper_rate : goal.add_uncertain-requires-clause-upper_rate
add_uncertain-requires-clause-upper_rate c = (uncertain_within _ _ _ _ _ _ _ _ c.requires.command c.in-Uncertain.is).upper_rate

pub add_choice-requires-clause-costs : goal.add_choice-requires-clause-costs
add_choice-requires-clause-costs c = choice_within _ _ _ _ _ c.requires.command c.in-Choice.is c.as_slice.ensures

pub add_requirement-requires-clause-lower : goal.add_requirement-requires-clause-lower
add_requirement-requires-clause-lower c = (require_within _ _ _ _ _ _ _ c.requires.command c.in-Require.is).lower

pub add_requirement-requires-clause-upper : goal.add_requirement-requires-clause-upper
add_requirement-requires-clause-upper c = (require_within _ _ _ _ _ _ _ c.requires.command c.in-Require.is).upper

pub set_bound-requires : goal.set_bound-requires
set_bound-requires c = new_bound_within _ _ _ _ c.requires.command c.in-Bound.is

pub set_price-requires : goal.set_price-requires
set_price-requires c = new_price_within _ _ _ _ c.requires.command c.in-Price.is

pub set_rate-requires : goal.set_rate-requires
set_rate-requires c = new_rate_within _ _ _ _ c.requires.command c.in-Rate.is

pub set_range-requires-clause-lower : goal.set_range-requires-clause-lower
set_range-requires-clause-lower c = (range_within _ _ _ _ c.requires.command c.in-Range.is).lower

pub set_range-requires-clause-upper : goal.set_range-requires-clause-upper
set_range-requires-clause-upper c = (range_within _ _ _ _ c.requires.command c.in-Range.is).upper

pub set_preference-requires : goal.set_preference-requires
set_preference-requires c = new_cost_within _ _ _ _ c.requires.command c.in-Prefer.is

-- the plan's answer is passed on
pub returns-in-Uncertain-clause-answer : goal.returns-in-Uncertain-clause-answer
returns-in-Uncertain-clause-answer c =
    let u = c.in-Uncertain in
    let first = uncertain_refusal c.args.plan.now u.name u.start u.end u.lower u.upper in
    let answered : Answers first c.add_uncertain.result = search rules in
    rw u.is (answers_first first c.add_uncertain.result c.pass_on-in-Uncertain.result answered c.pass_on-in-Uncertain.ensures)

pub returns-in-Require-clause-answer : goal.returns-in-Require-clause-answer
returns-in-Require-clause-answer c =
    let r = c.in-Require in
    let first = λ (guard : List (List ℕ × List ℕ)). requirement_refusal c.args.plan.now r.name r.from r.to r.lower r.upper guard in
    let answered : Answers (first r.guard) c.add_requirement.result =
    subst (λ guard. Answers (first guard) c.add_requirement.result) c.as_slice-in-Require.ensures c.add_requirement.ensures.answer in
    rw r.is (answers_first (first r.guard) c.add_requirement.result c.pass_on-in-Require.result answered c.pass_on-in-Require.ensures)

pub returns-in-Bound-clause-answer : goal.returns-in-Bound-clause-answer
returns-in-Bound-clause-answer c =
    let b = c.in-Bound in
    let first = bound_refusal c.args.plan.now b.name b.side b.bound in
    rw b.is (answers_always first c.set_bound.result c.pass_on-in-Bound.result c.set_bound.ensures.answer c.pass_on-in-Bound.ensures)
