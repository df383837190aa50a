use Rattle.std.proofs.Common.{◌≡◌, ◌++◌}
use Rattle.uhura_dual.specs.ReadOff.{requirement_items, duration_items, passed_in_items}
use Rattle.uhura_dual.proofs.reading.add_durations.Given as goal

abbrev pub invariant-loop-duration : goal.invariant-loop-duration
invariant-loop-duration l = l.loosening ≡ passed_in_items l.plan l.branch l.potentials (requirement_items l.plan.requirements ++ duration_items l.duration)
