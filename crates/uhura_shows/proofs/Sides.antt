-- The branches of the worked plans, and what covers them.
use Rattle.std.proofs.Common.{rules, ◌≡◌, ℕ, zero, suc, ◌≤◌, List, [], ◌∷◌, ◌++◌, length, Some, get_or, refl, sym, ap, subst, inl, inr, lit<, lit≤, arith}
use Rattle.std.specs.Prelude.{slice_get}
use Rattle.std.proofs.lemmas.Option.{none-some, same_Some}
use Rattle.std.proofs.lemmas.List.Elements.{All-nil, All-cons}
use Rattle.std.proofs.lemmas.List.Kept.{AllPairs-cons}
use Rattle.uhura_plan.specs.declared.choice.Choice.{Choice}
use Rattle.uhura_choice.specs.declared.prefix.Pick.{Pick}
use Rattle.uhura_choice.specs.declared.prefix.Pick.TheVariants.{Alternative}
use Rattle.uhura_choice.specs.Branch.{IsPrefix, IsEarlier}
use Rattle.uhura_choice.proofs.Prefixes.{HaveAlternatives}
use Rattle.uhura_worst.specs.Examples.{side_choice, two_sides}
use Rattle.uhura_shows.specs.Leaf.{LeafShown}
use Rattle.uhura_shows.specs.Shows.{IsShownBy, Shows}
use Rattle.uhura_shows.specs.Cover.{IsBegunByOne, IsCover, Covers}
use Rattle.uhura_shows.specs.Behind.{child_index}
use Rattle.uhura_shows.specs.Examples.{flow, left, right, clash_by, both_sides, price_choice, free_choice, dear_x, dear_y}
use Rattle.uhura_shows.proofs.Covering.{covers-themselves, covers-itself, covers-append, covers-up, covers-all, the-one}

-- two prefixes in order
pub pair-covers : (cs : List Choice) (a b : List Pick) → IsPrefix cs a → IsPrefix cs b → IsEarlier a b → Covers cs (a ∷ b ∷ []) (a ∷ b ∷ [])
pair-covers cs a b is_a is_b before =
    covers-themselves cs (a ∷ b ∷ []) (All-cons (IsPrefix cs) a (b ∷ []) is_a (All-cons (IsPrefix cs) b [] is_b (All-nil (IsPrefix cs))))
    (AllPairs-cons IsEarlier a (b ∷ []) (All-cons (IsEarlier a) b [] before (All-nil (IsEarlier a)))
    (AllPairs-cons IsEarlier b [] (All-nil (IsEarlier b)) (λ i j d less below. absurd (omega arith))))

sides-have : HaveAlternatives (side_choice ∷ [])
sides-have = record { some = by }
  where
    by : (place : ℕ) (c : Choice) → slice_get (side_choice ∷ []) place ≡ Some c → 1 ≤ length c.alternatives
    by zero c is = subst (λ (d : Choice). 1 ≤ length d.alternatives) (same_Some side_choice c is) (lit≤ tt)
    by (suc place) c is = absurd (none-some c is)

pub sides-cover : IsCover (side_choice ∷ []) (left ∷ right ∷ [])
sides-cover =
    covers-all (side_choice ∷ []) (left ∷ right ∷ [])
    (covers-up (side_choice ∷ []) [] (left ∷ right ∷ []) sides-have (left, search rules) (λ whole. whole)
    (pair-covers (side_choice ∷ []) left right ([], search rules) ([], search rules) (inl (lit< tt))))

-- the right side isn't begun by the left
pub right-not_left : IsBegunByOne (left ∷ []) right → ⊥
right-not_left one = by one.place one.prefix one.there one.begins.0 one.begins.1
  where
    by : (place : ℕ) (prefix : List Pick) → slice_get (left ∷ []) place ≡ Some prefix → (rest : List Pick) → right ≡ prefix ++ rest → ⊥
    by zero prefix there rest is =
        let shape : right ≡ left ++ rest = subst (λ (p : List Pick). right ≡ p ++ rest) (sym (same_Some left prefix there)) is in
        let first : 1 ≡ 0 = ap (λ (picks : List Pick). child_index (get_or picks 0 (Alternative 0))) shape in
        omega (arith, first)
    by (suc place) prefix there rest is = none-some prefix there

prices-have : HaveAlternatives (price_choice ∷ free_choice ∷ [])
prices-have = record { some = by }
  where
    by : (place : ℕ) (c : Choice) → slice_get (price_choice ∷ free_choice ∷ []) place ≡ Some c → 1 ≤ length c.alternatives
    by zero c is = subst (λ (d : Choice). 1 ≤ length d.alternatives) (same_Some price_choice c is) (lit≤ tt)
    by (suc zero) c is = subst (λ (d : Choice). 1 ≤ length d.alternatives) (same_Some free_choice c is) (lit≤ tt)
    by (suc (suc place)) c is = absurd (none-some c is)

pub prices-cover : IsCover (price_choice ∷ free_choice ∷ []) (left ∷ dear_x ∷ dear_y ∷ [])
prices-cover =
    let cs : List Choice = price_choice ∷ free_choice ∷ [] in
    let dear : Covers cs (right ∷ []) (dear_x ∷ dear_y ∷ []) =
    covers-up cs right (dear_x ∷ dear_y ∷ []) prices-have (Alternative 0 ∷ [], search rules) (λ whole. whole.1)
    (pair-covers cs dear_x dear_y ([], search rules) ([], search rules) (inr (refl, inl (lit< tt)))) in
    covers-all cs (left ∷ dear_x ∷ dear_y ∷ [])
    (covers-up cs [] (left ∷ dear_x ∷ dear_y ∷ []) prices-have (dear_x, search rules) (λ whole. whole)
    (covers-append cs (left ∷ []) (right ∷ []) (left ∷ []) (dear_x ∷ dear_y ∷ []) (covers-itself cs left (Alternative 0 ∷ [], search rules)) dear
    (λ top other has there. subst (λ l. IsEarlier l other) (the-one left top has) (subst (λ l. IsEarlier left l) (the-one right other there) (inl (lit< tt))))))

-- the leaves of both sides show that the left one costs 5
pub sides-shown : Shows two_sides (Some (left, 5)) (both_sides (clash_by 1 1))
sides-shown = record {
  cover = sides-cover;
  reasons =
      All-cons (λ (leaf : LeafShown). IsShownBy two_sides (Some (left, 5)) leaf.prefix leaf.reason) (flow left []) (flow right (clash_by 1 1) ∷ []) (search rules)
      (All-cons (λ (leaf : LeafShown). IsShownBy two_sides (Some (left, 5)) leaf.prefix leaf.reason) (flow right (clash_by 1 1)) [] (search rules)
      (All-nil (λ (leaf : LeafShown). IsShownBy two_sides (Some (left, 5)) leaf.prefix leaf.reason)));
  whole = search rules;
}
