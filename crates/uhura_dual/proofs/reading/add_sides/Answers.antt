use Rattle.std.proofs.Common.{ℕ, List, ap, ◌∙◌}
use Rattle.uhura_plan.specs.declared.key.SideKey.{SideKey}
use Rattle.uhura_plan.specs.declared.key.Side.TheVariants.{Lower, Upper}
use Rattle.uhura_worst.specs.Units.{side_units}
use Rattle.uhura_dual.proofs.Pairs.{side_units-other, other_side}
use Rattle.uhura_dual.proofs.reading.add_sides.Goals as goal

pub add_side-requires-2-clause-fresh : goal.add_side-requires-2-clause-fresh
add_side-requires-2-clause-fresh c =
    ap (λ (pairs : List (SideKey × ℕ)). side_units pairs (record { item = c.args.item; side = Upper })) c.in_ok-add_side.ensures
    ∙ side_units-other c.args.loosening.now (record { item = c.args.item; side = Upper }) (record { item = c.args.item; side = Lower }) c.args.lower (other_side c.args.item)
    ∙ c.requires.fresh Upper
