use Rattle.std.proofs.Common.{◌≡◌, ◌++◌, take}
use Rattle.uhura_line.specs.Form.{pair_words}
use Rattle.uhura_line.specs.Reads.{alternative_pairs}
use Rattle.uhura_line.specs.Written.{spaced}
use Rattle.uhura_line.proofs.part.costed.put_alternatives.Given as goal

abbrev pub invariant-loop-alternative : goal.invariant-loop-alternative
invariant-loop-alternative l =
    l.line.items ≡ l.fn.line.items ++ spaced (pair_words (alternative_pairs (take l.alternative-index l.alternatives)))
