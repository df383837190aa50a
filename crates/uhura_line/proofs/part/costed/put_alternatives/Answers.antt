use Rattle.uhura_line.proofs.Spacing.{extended, alternatives_more}
use Rattle.uhura_line.proofs.part.costed.put_alternatives.Goals as goal

pub loop-alternative-preserved : goal.loop-alternative-preserved
loop-alternative-preserved c =
    extended _ _ _ _ _ _ c.in_ok-put_alternative.ensures c.loop-alternative.invariant (alternatives_more c.args.alternatives.now c.loop-alternative.alternative-index c.alternative-item.result c.loop-alternative-test.true c.alternative-item.is)
