use Rattle.std.proofs.Common.{◌≡◌, ◌∙◌, [], replicate, ap}
use Rattle.uhura_plan.specs.declared.limits.TheConstants.{REQUIREMENTS}
use Rattle.uhura_search.proofs.Holding.{shown-empty, empty-held}
use Rattle.uhura_search.proofs.searcher.Searcher.new.Goals as goal

pub invariant_of-result : goal.invariant_of-result
invariant_of-result c =
    let made = c.in_ok-new.ensures in
    let none : c.in_ok-vec.field-0.items ≡ replicate REQUIREMENTS [] = c.in_ok-vec.ensures.items_if_clones_equal (λ y same. same) ∙ ap (replicate REQUIREMENTS) c.empty.ensures in
    empty-held c.in_ok-new.field-0 c.in_ok-vec.field-0.items made.flow made.store made.table made.places made.added none

pub returns-clause-made : goal.returns-clause-made
returns-clause-made c =
    let made = c.in_ok-new.ensures in
    let none : c.in_ok-vec.field-0.items ≡ replicate REQUIREMENTS [] = c.in_ok-vec.ensures.items_if_clones_equal (λ y same. same) ∙ ap (replicate REQUIREMENTS) c.empty.ensures in
    shown-empty c.in_ok-new.field-0 c.in_ok-vec.field-0.items made.flow made.store made.table made.places made.added none
