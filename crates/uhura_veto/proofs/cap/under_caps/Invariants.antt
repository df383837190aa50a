use Rattle.std.proofs.Common.{◌≡◌, take}
use Rattle.uhura_veto.specs.Room.{caps_on, least_with}
use Rattle.uhura_veto.proofs.cap.under_caps.Given as goal

abbrev pub invariant-loop-veto : goal.invariant-loop-veto
invariant-loop-veto l = l.room ≡ least_with l.fn.limit (caps_on l.fn.key (take l.veto-index l.vetoes))
