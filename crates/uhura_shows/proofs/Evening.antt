-- The leaves of an evening show the answers to its first two questions.
use Rattle.std.proofs.Common.{rules, ◌≡◌, ℕ, zero, suc, ◌≤◌, List, [], ◌∷◌, ◌++◌, length, Some, refl, subst, inl, inr, lit<, lit≤, arith}
use Rattle.std.specs.Prelude.{slice_get}
use Rattle.std.proofs.lemmas.Option.{none-some, same_Some}
use Rattle.std.proofs.lemmas.List.Elements.{All-nil, All-cons}
use Rattle.uhura_plan.specs.declared.choice.Choice.{Choice}
use Rattle.uhura_choice.specs.declared.prefix.Pick.{Pick}
use Rattle.uhura_choice.specs.declared.prefix.Pick.TheVariants.{Alternative}
use Rattle.uhura_choice.specs.Branch.{IsPrefix, IsEarlier}
use Rattle.uhura_choice.proofs.Prefixes.{HaveAlternatives}
use Rattle.uhura_shows.specs.Leaf.{LeafShown}
use Rattle.uhura_shows.specs.Carried.{IsKeyedCirculation}
use Rattle.uhura_shows.specs.Shows.{IsShownBy, Shows}
use Rattle.uhura_shows.specs.Cover.{IsCover, Covers}
use Rattle.uhura_shows.specs.Examples.{flow, denied}
use Rattle.uhura_shows.specs.Evening.{evening, without_thai, evening_choices, two, three, too_soon, too_late, first_leaves, second_leaves}
use Rattle.uhura_shows.proofs.Covering.{covers-itself, covers-append, covers-up, covers-all, the-one}
use Rattle.uhura_shows.proofs.Sides.{pair-covers}

have : HaveAlternatives evening_choices
have = record { some = by }
  where
    by : (place : ℕ) (c : Choice) → slice_get evening_choices place ≡ Some c → 1 ≤ length c.alternatives
    by zero c is = subst (λ (d : Choice). 1 ≤ length d.alternatives) (same_Some _ c is) (lit≤ tt)
    by (suc zero) c is = subst (λ (d : Choice). 1 ≤ length d.alternatives) (same_Some _ c is) (lit≤ tt)
    by (suc (suc zero)) c is = subst (λ (d : Choice). 1 ≤ length d.alternatives) (same_Some _ c is) (lit≤ tt)
    by (suc (suc (suc place))) c is = absurd (none-some c is)

abbrev one : ℕ → List Pick
one restaurant = Alternative restaurant ∷ []

-- a prefix, and two before another one, in the place of one
join : (top other : List Pick) (prefixes more : List (List Pick)) → IsEarlier top other → Covers evening_choices (top ∷ []) prefixes → Covers evening_choices (other ∷ []) more → Covers evening_choices (top ∷ other ∷ []) (prefixes ++ more)
join top other prefixes more before left right =
    covers-append evening_choices (top ∷ []) (other ∷ []) prefixes more left right
    (λ a b has there. subst (λ l. IsEarlier l b) (the-one top a has) (subst (λ l. IsEarlier top l) (the-one other b there) before))

indian-covers : Covers evening_choices (one 0 ∷ []) (two 0 0 ∷ two 0 1 ∷ [])
indian-covers =
    covers-up evening_choices (one 0) (two 0 0 ∷ two 0 1 ∷ []) have (Alternative 0 ∷ Alternative 0 ∷ [], search rules) (λ whole. whole.1)
    (pair-covers evening_choices (two 0 0) (two 0 1) (Alternative 0 ∷ [], search rules) (Alternative 0 ∷ [], search rules) (inr (refl, inl (lit< tt))))

routes-cover : (restaurant showing : ℕ) → IsPrefix evening_choices (two restaurant showing) → IsPrefix evening_choices (three restaurant showing 0) → IsPrefix evening_choices (three restaurant showing 1) → Covers evening_choices (two restaurant showing ∷ []) (three restaurant showing 0 ∷ three restaurant showing 1 ∷ [])
routes-cover restaurant showing top town ring =
    covers-up evening_choices (two restaurant showing) (three restaurant showing 0 ∷ three restaurant showing 1 ∷ []) have top (λ whole. whole.1.1)
    (pair-covers evening_choices (three restaurant showing 0) (three restaurant showing 1) town ring (inr (refl, inr (refl, inl (lit< tt)))))

thai-covers : Covers evening_choices (one 1 ∷ []) (three 1 0 0 ∷ three 1 0 1 ∷ two 1 1 ∷ [])
thai-covers =
    covers-up evening_choices (one 1) (three 1 0 0 ∷ three 1 0 1 ∷ two 1 1 ∷ []) have (Alternative 0 ∷ Alternative 0 ∷ [], search rules) (λ whole. whole.1)
    (join (two 1 0) (two 1 1) (three 1 0 0 ∷ three 1 0 1 ∷ []) (two 1 1 ∷ []) (inr (refl, inl (lit< tt)))
    (routes-cover 1 0 (Alternative 0 ∷ [], search rules) ([], search rules) ([], search rules))
    (covers-itself evening_choices (two 1 1) (Alternative 0 ∷ [], search rules)))

late-covers : Covers evening_choices (one 0 ∷ []) (two 0 0 ∷ three 0 1 0 ∷ three 0 1 1 ∷ [])
late-covers =
    covers-up evening_choices (one 0) (two 0 0 ∷ three 0 1 0 ∷ three 0 1 1 ∷ []) have (Alternative 0 ∷ Alternative 0 ∷ [], search rules) (λ whole. whole.1)
    (join (two 0 0) (two 0 1) (two 0 0 ∷ []) (three 0 1 0 ∷ three 0 1 1 ∷ []) (inr (refl, inl (lit< tt)))
    (covers-itself evening_choices (two 0 0) (Alternative 0 ∷ [], search rules))
    (routes-cover 0 1 (Alternative 0 ∷ [], search rules) ([], search rules) ([], search rules)))

first-covers : IsCover evening_choices (two 0 0 ∷ two 0 1 ∷ three 1 0 0 ∷ three 1 0 1 ∷ two 1 1 ∷ [])
first-covers =
    covers-all evening_choices (two 0 0 ∷ two 0 1 ∷ three 1 0 0 ∷ three 1 0 1 ∷ two 1 1 ∷ [])
    (covers-up evening_choices [] (two 0 0 ∷ two 0 1 ∷ three 1 0 0 ∷ three 1 0 1 ∷ two 1 1 ∷ []) have (three 0 0 0, search rules) (λ whole. whole)
    (join (one 0) (one 1) (two 0 0 ∷ two 0 1 ∷ []) (three 1 0 0 ∷ three 1 0 1 ∷ two 1 1 ∷ []) (inl (lit< tt)) indian-covers thai-covers))

second-covers : IsCover evening_choices (two 0 0 ∷ three 0 1 0 ∷ three 0 1 1 ∷ one 1 ∷ [])
second-covers =
    covers-all evening_choices (two 0 0 ∷ three 0 1 0 ∷ three 0 1 1 ∷ one 1 ∷ [])
    (covers-up evening_choices [] (two 0 0 ∷ three 0 1 0 ∷ three 0 1 1 ∷ one 1 ∷ []) have (three 0 0 0, search rules) (λ whole. whole)
    (join (one 0) (one 1) (two 0 0 ∷ three 0 1 0 ∷ three 0 1 1 ∷ []) (one 1 ∷ []) (inl (lit< tt)) late-covers
    (covers-itself evening_choices (one 1) (Alternative 0 ∷ Alternative 0 ∷ [], search rules))))

soon-circulates : IsKeyedCirculation evening (too_soon 3)
soon-circulates = record { carried = search rules; once = search rules; balanced = λ node. omega arith }

soon-circulates-too : IsKeyedCirculation without_thai (too_soon 3)
soon-circulates-too = record { carried = search rules; once = search rules; balanced = λ node. omega arith }

late-circulates : IsKeyedCirculation without_thai (too_late 2)
late-circulates = record { carried = search rules; once = search rules; balanced = λ node. omega arith }

pub first-shown : Shows evening (Some (three 1 0 0, 10)) first_leaves
first-shown =
    let P : LeafShown → Type 0 = λ leaf. IsShownBy evening (Some (three 1 0 0, 10)) leaf.prefix leaf.reason in
    record {
      cover = first-covers;
      reasons =
          All-cons P (flow (two 0 0) (too_soon 3)) (flow (two 0 1) [] ∷ flow (three 1 0 0) [] ∷ flow (three 1 0 1) [] ∷ flow (two 1 1) [] ∷ [])
          (record { circulation = soon-circulates; settled = search rules; least = search rules; more = λ earlier. search rules })
          (All-cons P (flow (two 0 1) []) (flow (three 1 0 0) [] ∷ flow (three 1 0 1) [] ∷ flow (two 1 1) [] ∷ []) (search rules)
          (All-cons P (flow (three 1 0 0) []) (flow (three 1 0 1) [] ∷ flow (two 1 1) [] ∷ []) (search rules)
          (All-cons P (flow (three 1 0 1) []) (flow (two 1 1) [] ∷ []) (search rules)
          (All-cons P (flow (two 1 1) []) [] (search rules) (All-nil P)))));
      whole = search rules;
    }

pub second-shown : Shows without_thai (Some (three 0 1 0, 35)) second_leaves
second-shown =
    let P : LeafShown → Type 0 = λ leaf. IsShownBy without_thai (Some (three 0 1 0, 35)) leaf.prefix leaf.reason in
    record {
      cover = second-covers;
      reasons =
          All-cons P (flow (two 0 0) (too_soon 3)) (flow (three 0 1 0) (too_late 2) ∷ flow (three 0 1 1) (too_late 2) ∷ denied (one 1) 0 ∷ [])
          (record { circulation = soon-circulates-too; settled = search rules; least = search rules; more = λ earlier. search rules })
          (All-cons P (flow (three 0 1 0) (too_late 2)) (flow (three 0 1 1) (too_late 2) ∷ denied (one 1) 0 ∷ [])
          (record { circulation = late-circulates; settled = search rules; least = search rules; more = λ earlier. search rules })
          (All-cons P (flow (three 0 1 1) (too_late 2)) (denied (one 1) 0 ∷ [])
          (record { circulation = late-circulates; settled = search rules; least = search rules; more = λ earlier. search rules })
          (All-cons P (denied (one 1) 0) [] (search rules) (All-nil P))));
      whole = search rules;
    }
