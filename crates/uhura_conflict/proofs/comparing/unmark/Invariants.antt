use Rattle.std.proofs.Common.{◌≡◌, length, drop}
use Rattle.uhura_net.specs.declared.place.TheConstants.{PLACES}
use Rattle.uhura_conflict.specs.Marked.{AreMarksAmong}
use Rattle.uhura_conflict.proofs.comparing.unmark.Given as goal

-- marks stand at the places that are left at most
abbrev pub invariant-loop-number : goal.invariant-loop-number
invariant-loop-number l = record {
  marks : length l.changed.items ≡ PLACES;
  among : AreMarksAmong l.changed.items (drop l.number-index l.places);
}
