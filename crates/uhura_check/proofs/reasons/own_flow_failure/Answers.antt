use Rattle.uhura_check.proofs.reasons.own_flow_failure.Goals as goal

pub flow_failure-requires-clause-flow : goal.flow_failure-requires-clause-flow
flow_failure-requires-clause-flow c = c.flow_of-flow.ensures c.args.state.now c.requires.table
