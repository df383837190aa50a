-- Sums and walks over keys, one key after another, and walks that are given by places.
use Rattle.std.proofs.Common.{◌≡◌, ℕ, List, [], ◌∷◌, ◌++◌, map, Option, IsSome, unwrap_or, refl, ap, ◌∙◌, subst, arith}
use Rattle.std.specs.Prelude.{pos, ◌+ℤ◌, ◌*ℤ◌, ◌<ℤ◌, IsFalse, All}
use Rattle.std.specs.List.{AllZip}
use Rattle.std.proofs.lemmas.Int.{ints}
use Rattle.std.proofs.lemmas.List.Elements.{All-nil, All-cons, All-head, All-tail}
use Rattle.uhura_plan.specs.declared.key.EdgeKey.{EdgeKey}
use Rattle.uhura_net.specs.declared.edge.Edge.{Edge}
use Rattle.uhura_net.specs.declared.place.Place.{Place}
use Rattle.uhura_net.specs.Place.{is_loose_key}
use Rattle.uhura_net.specs.Edges.{Edges, no_edge}
use Rattle.uhura_net.specs.Walk.{IsClosedWalk, bounds_of, edges_at, IsNegativeWalk}
use Rattle.uhura_veto.specs.State.{State}
use Rattle.uhura_worst.specs.Edges.{edge_of}
use Rattle.uhura_shows.specs.Carried.{keyed_edge, weighed_pairs, IsFirmKey, IsNegativeKeyedWalk}

-- one pair more weighs so much more
pub weighed_push : (state : State) (pairs : List (EdgeKey × ℕ)) (pair : EdgeKey × ℕ) → weighed_pairs state (pairs ++ pair ∷ []) ≡ weighed_pairs state pairs +ℤ (pos pair.1 *ℤ (keyed_edge state pair.0).bound)
weighed_push state [] pair = omega (arith, ints)
weighed_push state (first ∷ pairs) pair = omega (arith, ints, weighed_push state pairs pair)

-- the place of each key has the key's edge, which isn't loose
pub record IsFirmPlace (state : State) (edges : Edges) (place : Place) (key : EdgeKey) : Type 0 where
  pub there : edges place.0 ≡ edge_of state key
  pub firm : IsFalse (is_loose_key key)

module _ (state : State) (edges : Edges) where
  -- the edges at the places are those of the keys
  same-edges : (places : List Place) (keys : List EdgeKey) → AllZip (IsFirmPlace state edges) places keys → edges_at edges places ≡ map (keyed_edge state) keys
  same-edges [] [] zip = refl
  same-edges [] (key ∷ keys) zip = absurd zip
  same-edges (place ∷ places) [] zip = absurd zip
  same-edges (place ∷ places) (key ∷ keys) zip =
      ap (λ (o : Option Edge). unwrap_or o no_edge ∷ edges_at edges places) zip.0.there ∙ ap (λ (l : List Edge). keyed_edge state key ∷ l) (same-edges places keys zip.1)

  firm-keys : (places : List Place) (keys : List EdgeKey) → AllZip (IsFirmPlace state edges) places keys → All (λ place. IsSome (edges place.0)) places → All (IsFirmKey state) keys
  firm-keys [] [] zip there = All-nil (IsFirmKey state)
  firm-keys [] (key ∷ keys) zip there = absurd zip
  firm-keys (place ∷ places) [] zip there = absurd zip
  firm-keys (place ∷ places) (key ∷ keys) zip there =
      All-cons (IsFirmKey state) key keys
      (record { there = subst (λ (o : Option Edge). IsSome o) zip.0.there (All-head (λ (p : Place). IsSome (edges p.0)) place places there); firm = zip.0.firm })
      (firm-keys places keys zip.1 (All-tail (λ (p : Place). IsSome (edges p.0)) place places there))

  -- so a negative walk over the places is one of the keys
  pub walk-keyed : (places : List Place) (keys : List EdgeKey) → AllZip (IsFirmPlace state edges) places keys → IsNegativeWalk edges places → IsNegativeKeyedWalk state keys
  walk-keyed places keys zip walk =
      let same = same-edges places keys zip in
      record {
        each = firm-keys places keys zip walk.there;
        closed = subst (λ l. IsClosedWalk l) same walk.closed;
        below = subst (λ l. bounds_of l <ℤ pos 0) same walk.below;
      }
