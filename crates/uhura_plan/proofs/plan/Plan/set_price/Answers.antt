-- The requirement of the name gets the price, and stays sound.
use Rattle.uhura_plan.specs.Changes.{with_price}
use Rattle.uhura_plan.proofs.Named.{Changes}
use Rattle.uhura_plan.proofs.StaysSound.{with_price-stays}
use Rattle.uhura_plan.proofs.Changed.{view-change_requirement, HoldsPlan-change_requirement}
use Rattle.uhura_plan.proofs.plan.Plan.set_price.Goals as goal

changes : (c : goal.After-self-1) → Changes c.args.name (with_price c.args.side c.args.price) c.self.inside.requirements.entries c.in-Some.place c.set_price.new.self
changes c = record {
  item = c.index_mut.result.now;
  found = c.in-Some.ensures.index;
  at = c.index_mut.ensures.value;
  is = c.set_price.ensures;
}

pub invariant_of-self : goal.invariant_of-self
invariant_of-self c =
    HoldsPlan-change_requirement c.args.name c.self.view_is c.self.invariant _ _ _ (changes c) (with_price-stays c.args.side c.args.price _ c.requires)

pub returns-clause-ok : goal.returns-clause-ok
returns-clause-ok c = view-change_requirement c.args.name c.self.view_is c.self.invariant _ _ _ (changes c)
