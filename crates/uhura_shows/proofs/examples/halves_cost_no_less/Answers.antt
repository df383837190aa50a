use Rattle.std.proofs.Common.{rules}
use Rattle.uhura_worst.specs.Allowed.{Allowed}
use Rattle.uhura_worst.specs.Examples.{two_sides, by_left}
use Rattle.uhura_shows.specs.Examples.{both_sides, clash_by}
use Rattle.uhura_shows.proofs.Leaves.{leaves-cheapest, leaves-first}
use Rattle.uhura_shows.proofs.Sides.{sides-shown}
use Rattle.uhura_shows.proofs.SoundSides.{two_sides-sound}
use Rattle.uhura_shows.proofs.examples.halves_cost_no_less.Goals as goal

left-allowed : Allowed two_sides 1 by_left
left-allowed = search rules

pub returns-clause-cheapest : goal.returns-clause-cheapest
returns-clause-cheapest c = leaves-cheapest two_sides by_left (both_sides (clash_by 1 1)) two_sides-sound left-allowed sides-shown

pub returns-clause-first : goal.returns-clause-first
returns-clause-first c = leaves-first two_sides by_left (both_sides (clash_by 1 1)) two_sides-sound sides-shown
