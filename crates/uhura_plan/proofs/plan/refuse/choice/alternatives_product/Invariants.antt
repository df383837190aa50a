use Rattle.std.proofs.Common.{◌≡◌, take}
use Rattle.uhura_plan.specs.Sound.{alternatives_product}
use Rattle.uhura_plan.proofs.plan.refuse.choice.alternatives_product.Given as goal

-- the product so far
abbrev pub invariant-loop-choice : goal.invariant-loop-choice
invariant-loop-choice l = l.product ≡ alternatives_product (take l.choice-index l.choices)
