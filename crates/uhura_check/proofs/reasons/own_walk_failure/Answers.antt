use Rattle.uhura_check.proofs.reasons.own_walk_failure.Goals as goal

pub stuck_failure-requires : goal.stuck_failure-requires
stuck_failure-requires c = c.is_negative_walk-negative.ensures c.args.state.now c.requires.table
