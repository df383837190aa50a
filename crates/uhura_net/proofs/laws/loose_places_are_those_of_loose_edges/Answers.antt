use Rattle.uhura_net.proofs.Rows.{is_loose-place_number}
use Rattle.uhura_net.proofs.laws.loose_places_are_those_of_loose_edges.Goals as goal

pub returns : goal.returns
returns c = is_loose-place_number
