use Rattle.std.proofs.Common.{length}
use Rattle.uhura_line.proofs.CostedLemmas.{IsCostedTo}
use Rattle.uhura_line.proofs.part.costed.read_alternatives.Given as goal

abbrev pub invariant-alternatives : goal.invariant-alternatives
invariant-alternatives l = IsCostedTo l.initial.words l.words l.read

abbrev pub decreases-alternatives : goal.decreases-alternatives
decreases-alternatives l = length l.words
