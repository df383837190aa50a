use Rattle.std.proofs.Common.{ap, ◌∙◌, ◌++◌, [], ◌∷◌, None, arith}
use Rattle.uhura_net.proofs.Cells.{IsSparse-new, edges_in-new}
use Rattle.uhura_net.proofs.sparse.SparseEdges.new.Goals as goal

pub invariant_of-result : goal.invariant_of-result
invariant_of-result c = (
  IsSparse-new _ _ (c.in_ok-numbers.ensures.items_if_clones_equal (λ y same. same)) (c.push_reserved.ensures.items ∙ ap (λ items. items ++ None ∷ []) c.in_ok-cells.ensures.items),
  omega (arith, c.push_reserved.ensures.capacity, c.in_ok-cells.ensures.exact),
)

pub returns : goal.returns
returns c =
    edges_in-new _ _ (c.in_ok-numbers.ensures.items_if_clones_equal (λ y same. same)) (c.push_reserved.ensures.items ∙ ap (λ items. items ++ None ∷ []) c.in_ok-cells.ensures.items)
