use Rattle.uhura_relax.proofs.scratch.RelaxScratch.new.Goals as goal

pub invariant_of-result : goal.invariant_of-result
invariant_of-result c = record { all_chosen = c.in_ok-vec.ensures.items_if_clones_equal (λ y same. same) }
