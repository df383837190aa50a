use Rattle.std.proofs.Common.{arith}
use Rattle.std.proofs.lemmas.Int.{ints}
use Rattle.uhura_path.proofs.quest.slack.Goals as goal

pub returns-clause-slack : goal.returns-clause-slack
returns-clause-slack c =
    let fits = c.requires.potentials in
    omega (arith, ints, fits.least c.args.edge.to, fits.most c.args.edge.to, fits.least c.args.edge.from, fits.most c.args.edge.from)

pub returns-clause-least : goal.returns-clause-least
returns-clause-least c =
    let fits = c.requires.potentials in
    omega (arith, ints, fits.least c.args.edge.to, fits.most c.args.edge.to, fits.least c.args.edge.from, fits.most c.args.edge.from)

pub returns-clause-most : goal.returns-clause-most
returns-clause-most c =
    let fits = c.requires.potentials in
    omega (arith, ints, fits.least c.args.edge.to, fits.most c.args.edge.to, fits.least c.args.edge.from, fits.most c.args.edge.from)
