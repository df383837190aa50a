use Rattle.std.proofs.Common.{◌≡◌, vec_capacity}
use Rattle.uhura_net.specs.Edges.{chosen_edges}
use Rattle.uhura_cycle.proofs.Gathered.{IsGatheredSoFar}
use Rattle.uhura_cycle.proofs.gathering.gather.Given as goal

-- the edges at the first places are gathered, in the same room
abbrev pub invariant-loop-number : goal.invariant-loop-number
invariant-loop-number l =
    IsGatheredSoFar (chosen_edges l.table l.chosen) l.number l.steps.items × (vec_capacity l.steps ≡ vec_capacity l.initial.steps)
