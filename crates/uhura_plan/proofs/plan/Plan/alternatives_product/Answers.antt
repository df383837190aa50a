-- Each choice of a sound plan has an alternative.
use Rattle.std.proofs.Common.{All, sym, subst, ◌∙◌}
use Rattle.uhura_plan.proofs.Products.{HasSome, all_have_some}
use Rattle.uhura_plan.proofs.plan.Plan.alternatives_product.Goals as goal

pub alternatives_product-requires-clause-some : goal.alternatives_product-requires-clause-some
alternatives_product-requires-clause-some c =
    subst (λ choices. All HasSome choices) (sym (c.as_slice.ensures ∙ c.values.ensures.rest)) (all_have_some _ c.self.invariant.sound)
