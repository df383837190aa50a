-- The choice of the name gets the cost at its alternative, and stays sound.
use Rattle.std.proofs.Common.{ap}
use Rattle.uhura_plan.specs.Changes.{with_cost}
use Rattle.uhura_plan.proofs.Named.{Changes}
use Rattle.uhura_plan.proofs.StaysSound.{named_cost-stays}
use Rattle.uhura_plan.proofs.Changed.{view-change_choice, HoldsPlan-change_choice}
use Rattle.uhura_plan.proofs.plan.Plan.set_preference.Goals as goal

changes : (c : goal.After-self-1) → Changes c.args.choice (with_cost c.args.alternative c.args.cost) c.self.inside.choices.entries c.in-Some.place (record c.index_mut.result.now { alternatives = c.set_cost.new.self })
changes c = record {
  item = c.index_mut.result.now;
  found = c.in-Some.ensures.index;
  at = c.index_mut.ensures.value;
  is = ap (λ all. record c.index_mut.result.now { alternatives = all }) c.set_cost.ensures;
}

pub set_cost-requires-clause-once : goal.set_cost-requires-clause-once
set_cost-requires-clause-once c = (c.self.invariant.sound.choices c.in-Some.place _ c.index_mut.ensures.value).distinct

pub invariant_of-self : goal.invariant_of-self
invariant_of-self c =
    HoldsPlan-change_choice c.args.choice c.self.view_is c.self.invariant _ _ _ (changes c)
    (λ d. named_cost-stays c.args.choice c.args.alternative c.args.cost d c.requires)

pub returns-clause-ok : goal.returns-clause-ok
returns-clause-ok c = view-change_choice c.args.choice c.self.view_is c.self.invariant _ _ _ (changes c)
