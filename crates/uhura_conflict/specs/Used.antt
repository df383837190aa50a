-- The places that have units.
use Rattle.std.specs.Prelude.{◌≡◌, ℕ, ◌<◌, ◌≤◌, List, Contains, length}
use Rattle.std.specs.List.{All, AllPairs}
use Rattle.uhura_net.specs.declared.place.Place.{Place}
use Rattle.uhura_net.specs.declared.place.TheConstants.{PLACES}
use Rattle.uhura_net.specs.Circulation.{Units}
use Rattle.uhura_conflict.specs.Learned.{units_in, AreRising}

-- the pairs are those of the first places with units, in order
pub record AreUsedBelow (units : Units) (pairs : List (Place × ℕ)) (places : ℕ) : Type 0 where
  pub inside : All (λ pair. pair.0.0 < places) pairs
  pub rising : AreRising pairs
  pub few : length pairs ≤ places
  pub some : All (λ pair. 1 ≤ pair.1) pairs
  pub below : (place : ℕ) → place < places → units_in pairs place ≡ units place
  pub behind : (place : ℕ) → places ≤ place → units_in pairs place ≡ 0

-- the places rise, and each one with units is among them
pub record AreUsedAmong (units : Units) (places : List ℕ) : Type 0 where
  pub inside : All (λ place. place < PLACES) places
  pub rising : AllPairs ◌<◌ places
  pub used : (place : ℕ) → place < PLACES → 1 ≤ units place → Contains places place
