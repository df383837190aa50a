use Rattle.uhura_cert.proofs.ItemsFit.{units_writable}
use Rattle.uhura_cert.proofs.write.put_flow.Goals as goal

pub put_units-requires-clause-fit : goal.put_units-requires-clause-fit
put_units-requires-clause-fit c = units_writable c.args.plan.now c.args.edges.now c.choices.ensures.sound c.requires
