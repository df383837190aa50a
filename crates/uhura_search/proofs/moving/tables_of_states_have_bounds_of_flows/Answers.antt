use Rattle.uhura_search.proofs.FlowBounds.{table-bounded}
use Rattle.uhura_search.proofs.moving.tables_of_states_have_bounds_of_flows.Goals as goal

pub returns : goal.returns
returns c = table-bounded
