use Rattle.std.proofs.Common.{rules, ◌∷◌, [], Some}
use Rattle.std.proofs.lemmas.List.Elements.{All-nil, All-cons}
use Rattle.uhura_shows.specs.Leaf.{LeafShown}
use Rattle.uhura_shows.specs.Shows.{IsShownBy}
use Rattle.uhura_shows.specs.Examples.{flow, cheap_or_dear, cheap_leaf, dear_x, dear_y}
use Rattle.uhura_shows.proofs.Sides.{prices-cover}
use Rattle.uhura_shows.proofs.examples.leaf_covers_the_branches_of_its_prefix.Goals as goal

pub returns-clause-shown : goal.returns-clause-shown
returns-clause-shown c = record {
  cover = prices-cover;
  reasons =
      All-cons (λ (leaf : LeafShown). IsShownBy cheap_or_dear (Some (dear_x, 4)) leaf.prefix leaf.reason) cheap_leaf (flow dear_x [] ∷ flow dear_y [] ∷ []) (search rules)
      (All-cons (λ (leaf : LeafShown). IsShownBy cheap_or_dear (Some (dear_x, 4)) leaf.prefix leaf.reason) (flow dear_x []) (flow dear_y [] ∷ []) (search rules)
      (All-cons (λ (leaf : LeafShown). IsShownBy cheap_or_dear (Some (dear_x, 4)) leaf.prefix leaf.reason) (flow dear_y []) [] (search rules)
      (All-nil (λ (leaf : LeafShown). IsShownBy cheap_or_dear (Some (dear_x, 4)) leaf.prefix leaf.reason))));
  whole = search rules;
}
