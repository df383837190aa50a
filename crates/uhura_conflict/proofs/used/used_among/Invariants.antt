use Rattle.std.proofs.Common.{get_or}
use Rattle.uhura_net.specs.declared.place.TheConstants.{PLACES}
use Rattle.uhura_flow.specs.Flow.{flow_units}
use Rattle.uhura_conflict.specs.Used.{AreUsedBelow}
use Rattle.uhura_conflict.proofs.used.used_among.Given as goal

-- the places with units before the next one that is listed
abbrev pub invariant-loop-number : goal.invariant-loop-number
invariant-loop-number l = AreUsedBelow (flow_units l.net) l.pairs.items (get_or l.places l.number-index PLACES)
