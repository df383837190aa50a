-- The requirement of the name gets the bound, and stays sound.
use Rattle.std.proofs.Common.{◌≡◌, None, sym, subst, ◌∙◌}
use Rattle.uhura_plan.specs.Changes.{with_bound}
use Rattle.uhura_plan.specs.Refusals.{empty_between, empty_bounds}
use Rattle.uhura_plan.proofs.Named.{Changes}
use Rattle.uhura_plan.proofs.StaysSound.{with_bound-stays}
use Rattle.uhura_plan.proofs.Changed.{view-change_requirement, HoldsPlan-change_requirement}
use Rattle.uhura_plan.proofs.plan.Plan.set_bound.Goals as goal

abbrev changes : (c : goal.After-self-1) → Changes c.args.name (with_bound c.args.side c.args.bound) c.self.inside.requirements.entries c.in-Some.place c.set_bound.new.self
changes c = record {
  item = c.index_mut.result.now;
  found = c.in-Some.ensures.index;
  at = c.index_mut.ensures.value;
  is = c.set_bound.ensures;
}

pub invariant_of-self : goal.invariant_of-self
invariant_of-self c =
    let same : c.index.result.now ≡ c.index_mut.result.now = let both = sym c.index.ensures ∙ c.index_mut.ensures.value in cc both in
    let bounds = c.bounds_with-lower.ensures in
    let none = sym (λ i. empty_between (bounds.lower i) (bounds.upper i)) ∙ sym c.in_default-empty_between.ensures in
    HoldsPlan-change_requirement c.args.name c.self.view_is c.self.invariant _ _ _ (changes c)
    (with_bound-stays c.args.side c.args.bound _ c.requires (subst (λ r. empty_bounds (with_bound c.args.side c.args.bound r) ≡ None) same none))

pub returns-clause-ok : goal.returns-clause-ok
returns-clause-ok c = view-change_requirement c.args.name c.self.view_is c.self.invariant _ _ _ (changes c)
