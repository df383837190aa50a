use Rattle.std.proofs.Common.{◌≡◌, ℕ, List, ap, subst, sym, ◌≤◌, ◌∙◌}
use Rattle.uhura_plan.specs.declared.key.SideKey.{SideKey}
use Rattle.uhura_worst.specs.Units.{side_units}
use Rattle.uhura_worst.proofs.Pairs.{side_units-most}
use Rattle.uhura_worst.proofs.loosening.Loosening.units.Goals as goal

pub returns-clause-most : goal.returns-clause-most
returns-clause-most c =
    let is : c.units_of.result ≡ side_units c.self.inside.pairs.items c.args.key = c.units_of.ensures ∙ ap (λ (pairs : List (SideKey × ℕ)). side_units pairs c.args.key) c.as_slice.ensures.value in
    subst (λ (n : ℕ). n ≤ 10000000000000) (sym is) (side_units-most c.self.inside.pairs.items c.args.key c.self.invariant.units)
