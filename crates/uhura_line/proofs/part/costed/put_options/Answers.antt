use Rattle.uhura_line.specs.Form.{pair_words, guard_words}
use Rattle.uhura_line.specs.Reads.{alternative_pairs}
use Rattle.uhura_line.proofs.Spacing.{extended, spaced-append}
use Rattle.uhura_line.proofs.part.costed.put_options.Goals as goal

pub returns : goal.returns
returns c =
    extended _ _ _ _ _ _ c.in_ok-put_guard.ensures c.in_ok-put_alternatives.ensures
    (spaced-append (pair_words (alternative_pairs c.args.alternatives.now)) (guard_words c.args.guard.now))
