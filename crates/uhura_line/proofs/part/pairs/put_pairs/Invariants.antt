use Rattle.std.proofs.Common.{◌≡◌, ◌++◌, take}
use Rattle.uhura_line.specs.Form.{pair_words}
use Rattle.uhura_line.specs.Written.{spaced}
use Rattle.uhura_line.proofs.part.pairs.put_pairs.Given as goal

abbrev pub invariant-loop-pair : goal.invariant-loop-pair
invariant-loop-pair l = l.line.items ≡ l.fn.line.items ++ spaced (pair_words (take l.pair-index l.pairs))
