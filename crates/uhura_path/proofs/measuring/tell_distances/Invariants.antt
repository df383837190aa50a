use Rattle.std.proofs.Common.{◌≡◌, ℕ, ◌<◌, None, slice_index_or}
use Rattle.uhura_path.specs.Found.{label_at}
use Rattle.uhura_path.specs.Reach.{told_distance}
use Rattle.uhura_path.proofs.measuring.tell_distances.Given as goal

-- the first distances are written
abbrev pub invariant-loop-node : goal.invariant-loop-node
invariant-loop-node l = (node : ℕ) → node < l.node → slice_index_or l.distances node None ≡ told_distance l.fn.mark (label_at l.labels node)
