use Rattle.std.proofs.Common.{rules, refl}
use Rattle.uhura_worst.specs.Allowed.{Allowed}
use Rattle.uhura_worst.specs.Examples.{two_sides}
use Rattle.uhura_shows.proofs.Sides.{sides-shown}
use Rattle.uhura_check.specs.Confirmed.{proposal_of}
use Rattle.uhura_check.specs.Examples.{left_for}
use Rattle.uhura_check.proofs.examples.two_leaves_are_confirmed.Goals as goal

left-allowed : Allowed two_sides 1 (proposal_of two_sides.plan (left_for 5))
left-allowed = search rules

pub returns-clause-own : goal.returns-clause-own
returns-clause-own c = record { shows = sides-shown; good = record { allowed = left-allowed; cost = refl } }

pub returns-clause-used : goal.returns-clause-used
returns-clause-used c = record { shows = sides-shown; good = record { allowed = left-allowed; cost = refl } }
