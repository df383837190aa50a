use Rattle.uhura_flow.proofs.Kept.{IsKeptBelow-zero}
use Rattle.uhura_flow.proofs.potentials.Potentials.new.Goals as goal

pub invariant_of-result : goal.invariant_of-result
invariant_of-result c =
    IsKeptBelow-zero c.in_ok-vec.field-0.items c.in_ok-vec-2.field-0.items (c.in_ok-vec.ensures.items_if_clones_equal (λ y same. same))
    (c.in_ok-vec-2.ensures.items_if_clones_equal (λ y same. same))
