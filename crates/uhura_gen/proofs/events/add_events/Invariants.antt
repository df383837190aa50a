-- So many events so far.
use Rattle.std.proofs.Common.{◌≡◌}
use Rattle.uhura_gen.specs.Generator.{plan_of_events}
use Rattle.uhura_gen.proofs.events.add_events.Given as goal

abbrev pub invariant-loop-place : goal.invariant-loop-place
invariant-loop-place l = l.plan ≡ plan_of_events l.place
