use Rattle.std.proofs.Common.{sym}
use Rattle.uhura_search.proofs.FlowBounds.{key-there}
use Rattle.uhura_proof.proofs.entry.key_at.Goals as goal

pub returns : goal.returns
returns c = sym (key-there c.args.place.0 c.key_of.result c.key_of.ensures.has_place c.key_of.ensures.place)
