use Rattle.uhura_flow.proofs.Kept.{slack_read}
use Rattle.uhura_flow.proofs.potentials.Potentials.slack.Goals as goal

pub returns-clause-slack : goal.returns-clause-slack
returns-clause-slack c =
    let read = slack_read c.self.inside.values.items c.self.inside.highest c.self.inside.touched.items c.args.edge c.index-from.result.now c.index-to.result.now c.slack_between.result
    c.self.invariant c.requires c.index-from.ensures c.index-to.ensures c.slack_between.ensures in
    rw (← c.self.view_is) read.is

pub returns-clause-least : goal.returns-clause-least
returns-clause-least c =
    (slack_read c.self.inside.values.items c.self.inside.highest c.self.inside.touched.items c.args.edge c.index-from.result.now c.index-to.result.now c.slack_between.result
    c.self.invariant c.requires c.index-from.ensures c.index-to.ensures c.slack_between.ensures).least

pub returns-clause-most : goal.returns-clause-most
returns-clause-most c =
    (slack_read c.self.inside.values.items c.self.inside.highest c.self.inside.touched.items c.args.edge c.index-from.result.now c.index-to.result.now c.slack_between.result
    c.self.invariant c.requires c.index-from.ensures c.index-to.ensures c.slack_between.ensures).most
