use Rattle.std.proofs.Common.{◌≡◌, ◌++◌, map, take}
use Rattle.uhura_net.specs.Place.{place_number}
use Rattle.uhura_proof.proofs.entries.put_edges.Given as goal

abbrev pub invariant-loop-edge : goal.invariant-loop-edge
invariant-loop-edge l = l.numbers.items ≡ l.fn.numbers.items ++ map place_number (take l.edge-index l.edges)
