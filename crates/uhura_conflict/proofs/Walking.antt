-- The places of a walk with 1 unit each.
use Rattle.std.proofs.Common.{◌≡◌, ℕ, ◌<◌, List, [], ◌∷◌, map, refl, ap}
use Rattle.std.specs.Prelude.{All}
use Rattle.std.proofs.lemmas.List.Elements.{All-map}
use Rattle.uhura_net.specs.declared.place.Place.{Place}
use Rattle.uhura_net.specs.declared.place.TheConstants.{PLACES}
use Rattle.uhura_conflict.specs.Learned.{places_in}

pub places_of_walk : (cycle : List Place) → places_in (map (λ (place : Place). (place, 1)) cycle) ≡ cycle
places_of_walk [] = refl
places_of_walk (place ∷ cycle) = ap (λ (rest : List Place). place ∷ rest) (places_of_walk cycle)

pub inside_of_walk : (cycle : List Place) → All (λ (place : Place). place.0 < PLACES) cycle → All (λ (pair : Place × ℕ). pair.0.0 < PLACES) (map (λ (place : Place). (place, 1)) cycle)
inside_of_walk cycle inside = All-map (λ (pair : Place × ℕ). pair.0.0 < PLACES) (λ (place : Place). (place, 1)) cycle inside

-- each place has 1 unit
pub ones_of_walk : (cycle : List Place) → All (λ (pair : Place × ℕ). pair.1 ≡ 1) (map (λ (place : Place). (place, 1)) cycle)
ones_of_walk cycle = All-map (λ (pair : Place × ℕ). pair.1 ≡ 1) (λ (place : Place). (place, 1)) cycle (λ k d inside. refl)
