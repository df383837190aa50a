use Rattle.std.proofs.Common.{◌≤◌}
use Rattle.uhura_flow.specs.Flow.{IsFlow, flow_units}
use Rattle.uhura_conflict.specs.Used.{AreUsedBelow}
use Rattle.uhura_conflict.proofs.used.used_pairs.Given as goal

-- the first places with units
abbrev pub invariant-loop-number : goal.invariant-loop-number
invariant-loop-number l = AreUsedBelow (flow_units l.net) l.pairs.items l.number × (1 ≤ l.number → IsFlow l.net)
