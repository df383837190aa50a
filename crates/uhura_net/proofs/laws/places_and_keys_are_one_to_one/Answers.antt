use Rattle.uhura_net.proofs.Keys.{key_at}
use Rattle.uhura_net.proofs.laws.places_and_keys_are_one_to_one.Goals as goal

pub returns-clause-onto : goal.returns-clause-onto
returns-clause-onto c = key_at
