-- Worked plans on which the definitions are tried: potentials of their nodes, and units around a drive.
use Rattle.std.specs.Prelude.{ℕ, ◌+◌, ◌==◌, ℤ, pos, List, [], ◌∷◌, ◌++◌, replicate, if◌then◌else◌}
use Rattle.uhura_plan.specs.declared.key.Side.TheVariants.{Upper}
use Rattle.uhura_plan.specs.declared.key.EdgeKey.TheVariants.{Loose}
use Rattle.uhura_net.specs.Circulation.{Units}
use Rattle.uhura_net.specs.Place.{place_number}
use Rattle.uhura_veto.specs.State.{State}
use Rattle.uhura_worst.specs.Nodes.{least_end}
use Rattle.uhura_worst.specs.Examples.{evening_drive, dinner, priced, flat, requirement_side, duration_side}

-- the one controllable event at 0, and the ends of the one duration at these times
abbrev pub ends_at : ℤ → ℤ → List ℤ
ends_at least greatest = replicate (least_end 0) (pos 0) ++ least ∷ greatest ∷ []

-- The drive of 30 to 50 minutes that may be cut at 3 a minute, with dinner later at 3 a minute too.
abbrev pub even_drive : State
even_drive = record {
  plan = record evening_drive.plan {
    requirements = record dinner { upper = priced (pos 40) (flat 3) } ∷ [];
  };
  vetoes = [];
}

-- so many units from home to the late end of the drive, by the loose edge of dinner, and back by that of the drive
abbrev pub around_drive : ℕ → Units
around_drive units place =
    (if place_number (Loose (requirement_side 0 Upper)) == place then units else 0)
    + (if place_number (Loose (duration_side 0 Upper)) == place then units else 0)
