use Rattle.std.proofs.Common.{◌≡◌, drop}
use Rattle.uhura_worst.specs.Units.{side_units}
use Rattle.uhura_worst.proofs.loosening.units_of.Given as goal

abbrev pub invariant-loop-side : goal.invariant-loop-side
invariant-loop-side l = side_units (drop l.side-index l.pairs) l.fn.key ≡ side_units l.pairs l.fn.key
