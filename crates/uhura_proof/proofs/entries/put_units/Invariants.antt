use Rattle.std.proofs.Common.{◌≡◌, ◌++◌, flat_map, take}
use Rattle.uhura_proof.specs.Entries.{numbers_of}
use Rattle.uhura_proof.proofs.entries.put_units.Given as goal

abbrev pub invariant-loop-edge : goal.invariant-loop-edge
invariant-loop-edge l = l.numbers.items ≡ l.fn.numbers.items ++ flat_map numbers_of (take l.edge-index l.edges)
