use Rattle.std.proofs.Common.{◌≡◌, map, take}
use Rattle.uhura_net.specs.declared.place.Place.{Place}
use Rattle.uhura_dual.specs.Settled.{key_at}
use Rattle.uhura_conflict.specs.Learned.{places_in}
use Rattle.uhura_proof.proofs.entry.walk_edges.Given as goal

-- the edges at the first places
abbrev pub invariant-loop-place : goal.invariant-loop-place
invariant-loop-place l = l.edges.items ≡ map (λ (place : Place). key_at place.0) (places_in (take l.place-index l.pairs))
