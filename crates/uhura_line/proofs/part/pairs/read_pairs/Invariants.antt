use Rattle.std.proofs.Common.{length}
use Rattle.uhura_line.proofs.Pairing.{IsReadTo}
use Rattle.uhura_line.proofs.part.pairs.read_pairs.Given as goal

abbrev pub invariant-pairs : goal.invariant-pairs
invariant-pairs l = IsReadTo l.initial.words l.words l.pairs

abbrev pub decreases-pairs : goal.decreases-pairs
decreases-pairs l = length l.words
