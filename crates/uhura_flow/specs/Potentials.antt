-- What is kept of potentials.
use Rattle.std.specs.Prelude.{ℕ, ◌≤◌, ◌≡◌, Bool, ℤ, List, length}
use Rattle.uhura_net.specs.declared.edge.TheConstants.{NODES}
use Rattle.uhura_net.specs.Edges.{time_at}
use Rattle.uhura_flow.specs.declared.potentials.TheConstants.{HIGHEST}
use Rattle.uhura_flow.specs.Flow.{AreWithin}

-- one for each node, none above a number that isn't above the limit, and room for a mark for each
pub record IsKeptBelow (potentials : List ℤ) (highest : ℕ) (touched : List Bool) : Type 0 where
  pub nodes : length potentials ≡ NODES
  pub within : AreWithin highest (time_at potentials)
  pub small : highest ≤ HIGHEST
  pub marks : length touched ≡ NODES
