use Rattle.uhura_dual.proofs.KeysAt.{key_at-place_number, settled_edges-are}
use Rattle.uhura_dual.proofs.laws.each_place_has_its_edge.Goals as goal

pub returns-clause-key : goal.returns-clause-key
returns-clause-key c = key_at-place_number

pub returns-clause-settled : goal.returns-clause-settled
returns-clause-settled c = settled_edges-are
