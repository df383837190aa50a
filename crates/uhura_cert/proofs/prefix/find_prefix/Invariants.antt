use Rattle.std.proofs.Common.{take}
use Rattle.uhura_cert.specs.Machine.{ArePicksNamed}
use Rattle.uhura_cert.proofs.prefix.find_prefix.Given as goal

abbrev pub invariant-loop-place : goal.invariant-loop-place
invariant-loop-place l = ArePicksNamed l.plan.choices (take l.place l.names) l.picks.items
