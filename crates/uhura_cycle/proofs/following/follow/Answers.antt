use Rattle.std.proofs.Common.{◌≡◌, ap, slice_index_or, slice_set, w64, ◌+ℤ◌, ◌<ℤ◌, pos, to_z, of_z, arith, refl}
use Rattle.std.proofs.lemmas.Int.{ints}
use Rattle.uhura_net.specs.Edges.{time_at}
use Rattle.uhura_cycle.specs.Steps.{allowed_by}
use Rattle.uhura_cycle.proofs.following.follow.Goals as goal

-- the time that is written is what the edge allows, since the sum fits
pub returns-then-allowed-times : goal.returns-then-allowed-times
returns-then-allowed-times c =
    let times = c.args.times.now in
    let edge = c.args.step.edge in
    let allowed : to_z w64 (of_z w64 (to_z w64 (of_z w64 (slice_index_or times edge.from (pos 0))) +ℤ to_z w64 (of_z w64 edge.bound))) ≡ allowed_by c.args.step times =
    omega (arith, ints) in
    let less : allowed_by c.args.step times <ℤ time_at times edge.to = omega (arith, ints, allowed) in
    (less, ap (slice_set times edge.to) allowed, refl)
