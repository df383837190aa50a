use Rattle.std.proofs.Common.{◌≡◌, take}
use Rattle.uhura_dual.specs.ReadOff.{requirement_items, passed_in_items}
use Rattle.uhura_dual.proofs.reading.add_requirements.Given as goal

abbrev pub invariant-loop-position : goal.invariant-loop-position
invariant-loop-position l = l.loosening ≡ passed_in_items l.plan l.branch l.potentials (requirement_items (take l.position l.plan.requirements))
