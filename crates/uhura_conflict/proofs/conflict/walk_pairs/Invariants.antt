use Rattle.std.proofs.Common.{◌≡◌, map, take}
use Rattle.uhura_net.specs.declared.place.Place.{Place}
use Rattle.uhura_conflict.proofs.conflict.walk_pairs.Given as goal

-- the first places have their pairs
abbrev pub invariant-loop-place : goal.invariant-loop-place
invariant-loop-place l = l.pairs.items ≡ map (λ (place : Place). (place, 1)) (take l.place-index l.cycle)
