-- A place that comes in front of the others at its node gets the highest rank of all.
use Rattle.std.proofs.Common.{◌≡◌, ◌≢◌, ℕ, ◌+◌, ◌<◌, ◌≤◌, ◌⊎◌, cond, eqb, refl, sym, ap, ◌∙◌, inl, inr, arith}
use Rattle.std.proofs.lemmas.Bool.{cases_eq, cases_lt, eq-eqb, ne_eqb}
use Rattle.uhura_net.specs.declared.edge.TheConstants.{NODES}
use Rattle.uhura_net.specs.declared.place.TheConstants.{PLACES}
use Rattle.uhura_net.specs.Lists.{Listing, first_of, next_of, node_of, IsRanked}

-- a place that isn't listed is put in front at a node
pub record IsPut (before after : Listing) (place at : ℕ) : Type 0 where
  pub inside : place < PLACES
  pub there : at < NODES
  pub free : node_of before place ≡ NODES
  pub first_here : first_of after at ≡ place
  pub first_there : (other : ℕ) → other ≢ at → first_of after other ≡ first_of before other
  pub next_here : next_of after place ≡ first_of before at
  pub next_there : (other : ℕ) → other ≢ place → next_of after other ≡ next_of before other
  pub node_here : node_of after place ≡ at
  pub node_there : (other : ℕ) → other ≢ place → node_of after other ≡ node_of before other
  pub count : after.count ≡ before.count + 1

-- its rank, and those of the others
new_rank : (rank : ℕ → ℕ) (count place other : ℕ) → ℕ
new_rank rank count place other = cond (eqb other place) (count + 1) (rank other)

rank_here : (rank : ℕ → ℕ) (count place : ℕ) → new_rank rank count place place ≡ count + 1
unfolding new_rank
rank_here rank count place = rw (eq-eqb place place refl) refl

rank_there : (rank : ℕ → ℕ) (count place other : ℕ) → other ≢ place → new_rank rank count place other ≡ rank other
unfolding new_rank
rank_there rank count place other apart = rw (ne_eqb other place apart) refl

-- what is known of the new place, and of another
record IsNew (before after : Listing) (rank : ℕ → ℕ) (place at p : ℕ) : Type 0 where
  same : p ≡ place
  node : node_of after p ≡ at
  next : next_of after p ≡ first_of before at
  ranks : new_rank rank before.count place p ≡ before.count + 1

record IsOld (before after : Listing) (rank : ℕ → ℕ) (place p : ℕ) : Type 0 where
  other : p ≢ place
  node : node_of after p ≡ node_of before p
  next : next_of after p ≡ next_of before p
  ranks : new_rank rank before.count place p ≡ rank p

new_or_old : (before after : Listing) (rank : ℕ → ℕ) (place at p : ℕ) → IsPut before after place at →
    IsNew before after rank place at p ⊎ IsOld before after rank place p
new_or_old before after rank place at p put =
    elim (cases_eq p place) [
      | inl same ↦ inl (record {
        same = same;
        node = ap (λ q. node_of after q) same ∙ put.node_here;
        next = ap (λ q. next_of after q) same ∙ put.next_here;
        ranks = ap (λ q. new_rank rank before.count place q) same ∙ rank_here rank before.count place;
      })
      | inr other ↦ inr (record {
        other = other;
        node = put.node_there p other;
        next = put.next_there p other;
        ranks = rank_there rank before.count place p other;
      })
    ]

-- no list led to the new place
not_first : (before : Listing) (place node : ℕ) → place < PLACES → node_of before place ≡ NODES → IsRanked before → node < NODES → first_of before node ≢ place
not_first before place node inside free ranked there = λ same.
    let at : node_of before (first_of before node) ≡ node = ranked.first_at node there (omega (arith, same)) in
    let free' : node_of before (first_of before node) ≡ NODES = ap (λ q. node_of before q) same ∙ free in
    omega (arith, at, free')

not_next : (before : Listing) (place p : ℕ) → place < PLACES → node_of before place ≡ NODES → IsRanked before → node_of before p < NODES → next_of before p ≢ place
not_next before place p inside free ranked there = λ same.
    let at : node_of before (next_of before p) ≡ node_of before p = ranked.next_at p there (omega (arith, same)) in
    let free' : node_of before (next_of before p) ≡ NODES = ap (λ q. node_of before q) same ∙ free in
    omega (arith, at, free')

-- the first rank of a node is at most the count
first_most : (before : Listing) (ranked : IsRanked before) (node : ℕ) → node < NODES → ranked.rank (first_of before node) ≤ before.count
first_most before ranked node there =
    elim (cases_lt (first_of before node) PLACES) [
      | inl inside ↦
          let at = ranked.first_at node there inside in
          ranked.most (first_of before node) (omega (arith, at))
      | inr end ↦
          let last : first_of before node ≡ PLACES = omega (arith, ranked.first node) in
          omega (arith, ranked.end, ap ranked.rank last)
    ]

-- so no rank is changed where a list leads
first_kept : (before after : Listing) (place at node : ℕ) → IsPut before after place at → (ranked : IsRanked before) → node < NODES →
    IsOld before after ranked.rank place (first_of before node)
first_kept before after place at node put ranked there =
    let p : ℕ = first_of before node in
    let apart : p ≢ place = not_first before place node put.inside put.free ranked there in
    record { other = apart; node = put.node_there p apart; next = put.next_there p apart; ranks = rank_there ranked.rank before.count place p apart }

next_kept : (before after : Listing) (place at p : ℕ) → IsPut before after place at → (ranked : IsRanked before) → node_of before p < NODES →
    IsOld before after ranked.rank place (next_of before p)
next_kept before after place at p put ranked there =
    let q : ℕ = next_of before p in
    let apart : q ≢ place = not_next before place p put.inside put.free ranked there in
    record { other = apart; node = put.node_there q apart; next = put.next_there q apart; ranks = rank_there ranked.rank before.count place q apart }

put_some : (before after : Listing) (place at p : ℕ) → IsPut before after place at → (ranked : IsRanked before) → node_of after p < NODES →
    1 ≤ new_rank ranked.rank before.count place p
put_some before after place at p put ranked there =
    elim (new_or_old before after ranked.rank place at p put) [
      | inl new ↦ omega (arith, new.ranks)
      | inr old ↦ omega (arith, old.ranks, ranked.some p (omega (arith, old.node)))
    ]

put_most : (before after : Listing) (place at p : ℕ) → IsPut before after place at → (ranked : IsRanked before) → node_of after p < NODES →
    new_rank ranked.rank before.count place p ≤ after.count
put_most before after place at p put ranked there =
    elim (new_or_old before after ranked.rank place at p put) [
      | inl new ↦ omega (arith, new.ranks, put.count)
      | inr old ↦ omega (arith, old.ranks, put.count, ranked.most p (omega (arith, old.node)))
    ]

put_first : (before after : Listing) (place at node : ℕ) → IsPut before after place at → (ranked : IsRanked before) → first_of after node ≤ PLACES
put_first before after place at node put ranked =
    elim (cases_eq node at) [
      | inl same ↦ omega (arith, ap (λ n. first_of after n) same, put.first_here, put.inside)
      | inr other ↦ omega (arith, put.first_there node other, ranked.first node)
    ]

put_first_at : (before after : Listing) (place at node : ℕ) → IsPut before after place at → (ranked : IsRanked before) → node < NODES → first_of after node < PLACES →
    node_of after (first_of after node) ≡ node
put_first_at before after place at node put ranked there inside =
    elim (cases_eq node at) [
      | inl same ↦ ap (λ p. node_of after p) (ap (λ n. first_of after n) same ∙ put.first_here) ∙ put.node_here ∙ sym same
      | inr other ↦
          let first : first_of after node ≡ first_of before node = put.first_there node other in
          let kept = first_kept before after place at node put ranked there in
          ap (λ p. node_of after p) first ∙ kept.node ∙ ranked.first_at node there (omega (arith, first))
    ]

put_newest : (before after : Listing) (place at p : ℕ) → IsPut before after place at → (ranked : IsRanked before) → node_of after p < NODES →
    new_rank ranked.rank before.count place p ≤ new_rank ranked.rank before.count place (first_of after (node_of after p))
put_newest before after place at p put ranked there =
    let rank : ℕ → ℕ = λ q. new_rank ranked.rank before.count place q in
    elim (new_or_old before after ranked.rank place at p put) [
      | inl new ↦
          let first : first_of after (node_of after p) ≡ place = ap (λ n. first_of after n) new.node ∙ put.first_here in
          omega (arith, new.ranks, ap rank first, rank_here ranked.rank before.count place)
      | inr old ↦
          let listed : node_of before p < NODES = omega (arith, old.node) in
          elim (cases_eq (node_of before p) at) [
            | inl same ↦
                let first : first_of after (node_of after p) ≡ place = ap (λ n. first_of after n) (old.node ∙ same) ∙ put.first_here in
                omega (arith, old.ranks, ranked.most p listed, ap rank first, rank_here ranked.rank before.count place)
            | inr other ↦
                let first : first_of after (node_of after p) ≡ first_of before (node_of before p) =
                ap (λ n. first_of after n) old.node ∙ put.first_there (node_of before p) other in
                let kept = first_kept before after place at (node_of before p) put ranked listed in
                omega (arith, old.ranks, ranked.newest p listed, ap rank first, kept.ranks)
          ]
    ]

put_next : (before after : Listing) (place at p : ℕ) → IsPut before after place at → (ranked : IsRanked before) → next_of after p ≤ PLACES
put_next before after place at p put ranked =
    elim (new_or_old before after ranked.rank place at p put) [
      | inl new ↦ omega (arith, new.next, ranked.first at)
      | inr old ↦ omega (arith, old.next, ranked.next p)
    ]

put_next_at : (before after : Listing) (place at p : ℕ) → IsPut before after place at → (ranked : IsRanked before) → node_of after p < NODES → next_of after p < PLACES →
    node_of after (next_of after p) ≡ node_of after p
put_next_at before after place at p put ranked there inside =
    elim (new_or_old before after ranked.rank place at p put) [
      | inl new ↦
          let kept = first_kept before after place at at put ranked put.there in
          ap (λ q. node_of after q) new.next ∙ kept.node ∙ ranked.first_at at put.there (omega (arith, new.next)) ∙ sym new.node
      | inr old ↦
          let listed : node_of before p < NODES = omega (arith, old.node) in
          let kept = next_kept before after place at p put ranked listed in
          ap (λ q. node_of after q) old.next ∙ kept.node ∙ ranked.next_at p listed (omega (arith, old.next)) ∙ sym old.node
    ]

put_falls : (before after : Listing) (place at p : ℕ) → IsPut before after place at → (ranked : IsRanked before) → node_of after p < NODES →
    new_rank ranked.rank before.count place (next_of after p) < new_rank ranked.rank before.count place p
put_falls before after place at p put ranked there =
    let rank : ℕ → ℕ = λ q. new_rank ranked.rank before.count place q in
    elim (new_or_old before after ranked.rank place at p put) [
      | inl new ↦
          let kept = first_kept before after place at at put ranked put.there in
          omega (arith, ap rank new.next, kept.ranks, first_most before ranked at put.there, new.ranks)
      | inr old ↦
          let listed : node_of before p < NODES = omega (arith, old.node) in
          let kept = next_kept before after place at p put ranked listed in
          omega (arith, ap rank old.next, kept.ranks, ranked.falls p listed, old.ranks)
    ]

put_gapless : (before after : Listing) (place at p q : ℕ) → IsPut before after place at → (ranked : IsRanked before) → node_of after p < NODES → node_of after q ≡ node_of after p →
    new_rank ranked.rank before.count place q < new_rank ranked.rank before.count place p →
    new_rank ranked.rank before.count place q ≤ new_rank ranked.rank before.count place (next_of after p)
put_gapless before after place at p q put ranked there together less =
    let rank : ℕ → ℕ = λ r. new_rank ranked.rank before.count place r in
    elim (new_or_old before after ranked.rank place at p put) [
      | inl new ↦ elim (new_or_old before after ranked.rank place at q put) [
        | inl also ↦ absurd (omega (arith, new.ranks, also.ranks))
        | inr old ↦
            let here : node_of before q ≡ at = omega (arith, old.node, new.node) in
            let kept = first_kept before after place at at put ranked put.there in
            let most = ranked.newest q (omega (arith, here, put.there)) in
            omega (arith, ap rank new.next, kept.ranks, most, ap (λ n. ranked.rank (first_of before n)) here, old.ranks)
      ]
      | inr old ↦
          let listed : node_of before p < NODES = omega (arith, old.node) in
          elim (new_or_old before after ranked.rank place at q put) [
            | inl new ↦ absurd (omega (arith, old.ranks, new.ranks, ranked.most p listed))
            | inr also ↦
                let kept = next_kept before after place at p put ranked listed in
                let most = ranked.gapless p q listed (omega (arith, also.node, old.node)) (omega (arith, also.ranks, old.ranks)) in
                omega (arith, ap rank old.next, kept.ranks, also.ranks, most)
          ]
    ]

put_one : (before after : Listing) (place at p q : ℕ) → IsPut before after place at → (ranked : IsRanked before) → node_of after p < NODES → node_of after q ≡ node_of after p →
    new_rank ranked.rank before.count place p ≡ new_rank ranked.rank before.count place q → p ≡ q
put_one before after place at p q put ranked there together same =
    elim (new_or_old before after ranked.rank place at p put) [
      | inl new ↦ elim (new_or_old before after ranked.rank place at q put) [
        | inl also ↦ new.same ∙ sym also.same
        | inr old ↦ absurd (omega (arith, new.ranks, old.ranks, ranked.most q (omega (arith, old.node))))
      ]
      | inr old ↦
          let listed : node_of before p < NODES = omega (arith, old.node) in
          elim (new_or_old before after ranked.rank place at q put) [
            | inl new ↦ absurd (omega (arith, old.ranks, new.ranks, ranked.most p listed))
            | inr also ↦ ranked.one p q listed (omega (arith, also.node, old.node)) (omega (arith, also.ranks, old.ranks))
          ]
    ]

pub IsRanked-put : (before after : Listing) (place at : ℕ) → IsPut before after place at → IsRanked before → IsRanked after
IsRanked-put before after place at put ranked = record {
  rank = λ p. new_rank ranked.rank before.count place p;
  end = rank_there ranked.rank before.count place PLACES (λ same. omega (arith, same, put.inside)) ∙ ranked.end;
  some = λ p there. put_some before after place at p put ranked there;
  most = λ p there. put_most before after place at p put ranked there;
  first = λ node. put_first before after place at node put ranked;
  first_at = λ node there inside. put_first_at before after place at node put ranked there inside;
  newest = λ p there. put_newest before after place at p put ranked there;
  next = λ p. put_next before after place at p put ranked;
  next_at = λ p there inside. put_next_at before after place at p put ranked there inside;
  falls = λ p there. put_falls before after place at p put ranked there;
  gapless = λ p q there together less. put_gapless before after place at p q put ranked there together less;
  one = λ p q there together same. put_one before after place at p q put ranked there together same;
}
