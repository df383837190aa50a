use Rattle.uhura_worst.proofs.Puts.{PutsItem-duration}
use Rattle.uhura_worst.proofs.filling.put_duration.Goals as goal

pub returns : goal.returns
returns g c =
    PutsItem-duration c.args.duration ((g.T.Tables.tables c.args.tables.now).of_duration c.args.duration c.args.uncertain.now) _ _ _ _ _ _ _ _
    c.put_duration_edge.ensures c.put_duration_edge-2.ensures c.put_duration_edge-3.ensures c.put_duration_edge-4.ensures c.put_duration_edge-5.ensures
    c.put_duration_edge-6.ensures c.put_duration_edge-7.ensures
