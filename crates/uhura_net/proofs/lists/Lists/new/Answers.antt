use Rattle.uhura_net.proofs.Listed.{IsUnlisted-new}
use Rattle.uhura_net.proofs.lists.Lists.new.Goals as goal

pub invariant_of-result : goal.invariant_of-result
invariant_of-result c =
    (IsUnlisted-new _ _ _ (c.in_ok-vec.ensures.items_if_clones_equal (λ y same. same)) (c.in_ok-vec-2.ensures.items_if_clones_equal (λ y same. same))
    (c.in_ok-vec-3.ensures.items_if_clones_equal (λ y same. same))).sound

pub returns : goal.returns
returns c =
    IsUnlisted-new _ _ _ (c.in_ok-vec.ensures.items_if_clones_equal (λ y same. same)) (c.in_ok-vec-2.ensures.items_if_clones_equal (λ y same. same))
    (c.in_ok-vec-3.ensures.items_if_clones_equal (λ y same. same))
