-- The duration of the name gets the rate, and stays sound.
use Rattle.uhura_plan.specs.Changes.{with_rate}
use Rattle.uhura_plan.proofs.Named.{Changes}
use Rattle.uhura_plan.proofs.StaysSound.{with_rate-stays}
use Rattle.uhura_plan.proofs.Changed.{view-change_uncertain, HoldsPlan-change_uncertain}
use Rattle.uhura_plan.proofs.plan.Plan.set_rate.Goals as goal

changes : (c : goal.After-self-1) → Changes c.args.name (with_rate c.args.side c.args.rate) c.self.inside.uncertains.entries c.in-Some.place c.set_rate.new.self
changes c = record {
  item = c.index_mut.result.now;
  found = c.in-Some.ensures.index;
  at = c.index_mut.ensures.value;
  is = c.set_rate.ensures;
}

pub invariant_of-self : goal.invariant_of-self
invariant_of-self c =
    HoldsPlan-change_uncertain c.args.name c.self.view_is c.self.invariant _ _ _ (changes c) (with_rate-stays c.args.side c.args.rate _ c.requires)

pub returns-clause-ok : goal.returns-clause-ok
returns-clause-ok c = view-change_uncertain c.args.name c.self.view_is c.self.invariant _ _ _ (changes c)
