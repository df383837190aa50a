use Rattle.std.proofs.Common.{length}
use Rattle.uhura_item.proofs.Picking.{ArePickedTo}
use Rattle.uhura_item.proofs.leaf.read_picks.Given as goal

abbrev pub invariant-names : goal.invariant-names
invariant-names l = ArePickedTo l.initial.words l.words l.names.items

abbrev pub decreases-names : goal.decreases-names
decreases-names l = length l.words
