use Rattle.std.proofs.Common.{◌≡◌, take}
use Rattle.uhura_cert.specs.Items.{picked_names}
use Rattle.uhura_cert.proofs.leaf.picked_names.Given as goal

abbrev pub invariant-loop-place : goal.invariant-loop-place
invariant-loop-place l = l.names.items ≡ take l.place (picked_names l.plan.choices l.picks)
