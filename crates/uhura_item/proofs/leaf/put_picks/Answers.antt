use Rattle.uhura_line.proofs.Spacing.{extended}
use Rattle.uhura_item.proofs.Picking.{put_more}
use Rattle.uhura_item.proofs.leaf.put_picks.Goals as goal

pub loop-picked-preserved : goal.loop-picked-preserved
loop-picked-preserved c =
    extended _ _ _ _ _ _ c.in_ok-put_picked.ensures c.loop-picked.invariant (put_more c.as_slice-picked-items.result.now c.loop-picked.picked-index c.picked-item.result c.loop-picked-test.true c.picked-item.is)
