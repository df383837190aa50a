use Rattle.uhura_cert.proofs.ItemsFit.{edges_writable}
use Rattle.uhura_cert.proofs.write.put_walk.Goals as goal

pub put_edges-requires-clause-fit : goal.put_edges-requires-clause-fit
put_edges-requires-clause-fit c = edges_writable c.args.plan.now c.args.edges.now c.choices.ensures.sound c.requires
