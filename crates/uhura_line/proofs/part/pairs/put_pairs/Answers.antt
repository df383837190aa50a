use Rattle.uhura_line.proofs.Spacing.{extended, pairs_more}
use Rattle.uhura_line.proofs.part.pairs.put_pairs.Goals as goal

pub loop-pair-preserved : goal.loop-pair-preserved
loop-pair-preserved c =
    extended _ _ _ _ _ _ c.in_ok-put_pair.ensures c.loop-pair.invariant (pairs_more c.args.pairs.now c.loop-pair.pair-index c.pair-item.result c.loop-pair-test.true c.pair-item.is)
