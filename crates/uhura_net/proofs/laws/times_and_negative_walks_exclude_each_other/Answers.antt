use Rattle.uhura_net.proofs.Walks.{none_meet, none_meet_in_parts}
use Rattle.uhura_net.proofs.laws.times_and_negative_walks_exclude_each_other.Goals as goal

pub returns-clause-whole : goal.returns-clause-whole
returns-clause-whole c = none_meet

pub returns-clause-in_parts : goal.returns-clause-in_parts
returns-clause-in_parts c = none_meet_in_parts
