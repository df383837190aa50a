use Rattle.std.proofs.Common.{◌≡◌, ℕ, List, sym, ap, subst, ◌∙◌}
use Rattle.uhura_worst.specs.Units.{side_units, IsLoosening}
use Rattle.uhura_plan.specs.declared.key.SideKey.{SideKey}
use Rattle.uhura_worst.proofs.Pairs.{IsLoosening-push}
use Rattle.uhura_worst.proofs.loosening.Loosening.add.Goals as goal

pub invariant_of-self-2 : goal.invariant_of-self-2
invariant_of-self-2 c =
    let fresh : side_units c.self.inside.pairs.items c.args.key ≡ 0 = ap (λ (pairs : List (SideKey × ℕ)). side_units pairs c.args.key) c.self.view_is ∙ c.requires.fresh in
    subst IsLoosening (sym c.in_ok-push.ensures.items) (IsLoosening-push c.self.inside.pairs.items c.args.key c.args.units c.self.invariant fresh c.requires.units)
