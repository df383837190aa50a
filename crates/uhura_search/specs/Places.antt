-- Lists of places in their order.
use Rattle.std.specs.Prelude.{ℕ, ◌<◌, ◌≢◌, ◌↔◌, Bool, IsTrue, List, All, AllPairs, Contains}
use Rattle.uhura_net.specs.declared.place.TheConstants.{PLACES}

-- each is a place, below those behind it
pub record ArePlaces (places : List ℕ) : Type 0 where
  pub inside : All (λ place. place < PLACES) places
  pub rising : AllPairs ◌<◌ places

-- one place is listed or isn't, and each other is where it was
pub record SetsPlace (old new : List ℕ) (place : ℕ) (there : Bool) : Type 0 where
  pub own : Contains new place ↔ IsTrue there
  pub others : (other : ℕ) → other ≢ place → Contains new other ↔ Contains old other
