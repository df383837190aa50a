use Rattle.std.proofs.Common.{◌≡◌, true, take}
use Rattle.std.specs.List.{list_all}
use Rattle.uhura_net.specs.Circulation.{edges_of}
use Rattle.uhura_conflict.specs.Kept.{still_carries}
use Rattle.uhura_conflict.proofs.worth.are_carried.Given as goal

-- the first places still carry their units
abbrev pub invariant-loop-place : goal.invariant-loop-place
invariant-loop-place l = list_all (still_carries (edges_of l.old) (edges_of l.new)) (take l.place-index l.pairs) ≡ true
