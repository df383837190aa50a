-- The duration of the name gets the range, and stays sound.
use Rattle.std.proofs.Common.{Some, sym, ◌∙◌}
use Rattle.uhura_plan.specs.Changes.{with_range}
use Rattle.uhura_plan.specs.Refusals.{empty_between}
use Rattle.uhura_plan.proofs.Named.{Changes}
use Rattle.uhura_plan.proofs.StaysSound.{with_range-stays, end_carried}
use Rattle.uhura_plan.proofs.Changed.{view-change_uncertain, HoldsPlan-change_uncertain}
use Rattle.uhura_plan.proofs.plan.Plan.set_range.Goals as goal

changes : (c : goal.After-self-1) → Changes c.args.name (with_range c.args.lower c.args.upper) c.self.inside.uncertains.entries c.in-Some.place c.set_range.new.self
changes c = record {
  item = c.index_mut.result.now;
  found = c.in-Some.ensures.index;
  at = c.index_mut.ensures.value;
  is =
      let lower = end_carried c.args.lower c.requires.lower in
      let upper = end_carried c.args.upper c.requires.upper in
      c.set_range.ensures ∙ (λ i. with_range (lower i) (upper i) c.index_mut.result.now);
}

pub invariant_of-self : goal.invariant_of-self
invariant_of-self c =
    let lower = end_carried c.args.lower c.requires.lower in
    let upper = end_carried c.args.upper c.requires.upper in
    HoldsPlan-change_uncertain c.args.name c.self.view_is c.self.invariant _ _ _ (changes c)
    (with_range-stays c.args.lower c.args.upper _ c.requires.lower c.requires.upper
    (sym (λ i. empty_between (Some (lower i)) (Some (upper i))) ∙ sym c.in_default-empty_between.ensures))

pub returns-clause-ok : goal.returns-clause-ok
returns-clause-ok c = view-change_uncertain c.args.name c.self.view_is c.self.invariant _ _ _ (changes c)
