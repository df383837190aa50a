-- The name is no choice's, so the choice made goes behind the others, and the plan stays sound.
use Rattle.std.proofs.Common.{ℕ, ◌≤◌, List, All, length, sym, subst, ap, ◌∙◌}
use Rattle.uhura_plan.specs.declared.choice.Choice.{Choice}
use Rattle.uhura_plan.specs.Edits.{with_choice}
use Rattle.uhura_plan.specs.Limits.{IsAmount}
use Rattle.uhura_plan.specs.Sound.{IsName}
use Rattle.uhura_plan.specs.Refusals.{choice_refusal}
use Rattle.uhura_plan.proofs.Refusals.{unrefused_choice, all_known}
use Rattle.uhura_plan.proofs.Choices.{view-with_choice, HoldsPlan-with_choice}
use Rattle.uhura_plan.proofs.plan.Plan.add_choice.Goals as goal

pub guard_of-requires-clause-known : goal.guard_of-requires-clause-known
guard_of-requires-clause-known c =
    all_known c.args.self.now _ c.args.guard.now (unrefused_choice c.args.self.now c.args.name c.args.alternatives.now c.args.guard.now (sym c.in_default.ensures)).known

pub invariant_of-self-2 : goal.invariant_of-self-2
invariant_of-self-2 c =
    let made : Choice = record { name = c.args.name; alternatives = c.in_ok-from_slice.field-0; guard = c.guard_of.result } in
    let same = c.in_ok-from_slice.ensures.same in
    HoldsPlan-with_choice _ _ _ _ _ _ _ c.args.guard.now made c.self.view_is c.self.invariant c.in_ok-insert.ensures.entries
    (ap (λ a. choice_refusal c.args.self.now c.args.name a c.args.guard.now) same ∙ sym c.in_default.ensures)
    (record {
      name = c.bytes.ensures.name;
      some = subst (λ a. 1 ≤ length a) (sym same) c.requires.some;
      names = subst (All (λ a. IsName a.0)) (sym same) c.in_ok-from_slice.ensures.names;
      costs = subst (All (λ a. IsAmount a.1)) (sym same) c.requires.costs;
      guard = c.guard_of.ensures.among;
    })

pub returns-clause-ok : goal.returns-clause-ok
returns-clause-ok c =
    let made : List (List ℕ × ℕ) → Choice = λ a. record { name = c.args.name; alternatives = a; guard = c.guard_of.result } in
    let same = c.in_ok-from_slice.ensures.same in
    record {
      literals = c.guard_of.result;
      found = c.guard_of.ensures.found;
      lists =
          view-with_choice _ _ _ _ _ _ _ c.args.guard.now (made c.in_ok-from_slice.field-0) c.self.view_is c.self.invariant c.in_ok-insert.ensures.entries
          (ap (λ a. choice_refusal c.args.self.now c.args.name a c.args.guard.now) same ∙ sym c.in_default.ensures)
          ∙ ap (λ a. with_choice c.args.self.now (made a)) same;
    }
