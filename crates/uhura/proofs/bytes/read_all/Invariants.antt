use Rattle.std.proofs.Common.{◌≡◌, ◌-◌, length}
use Rattle.uhura.specs.declared.bytes.TheConstants.{INPUT_LIMIT}
use Rattle.uhura.proofs.Taking.{Taken}
use Rattle.uhura.proofs.bytes.read_all.Given as goal

abbrev pub invariant-pieces : goal.invariant-pieces
invariant-pieces g l = record {
  taken : Taken (g.S.Source.left l.initial.source) (g.S.Source.left l.source) (g.S.Source.given l.initial.source)
      (g.S.Source.given l.source) l.bytes.items;
  room : length l.buffer ≡ 4096;
  faults : g.S.Source.faults l.source ≡ g.S.Source.faults l.initial.source;
}

-- each piece takes of the room that is left
abbrev pub decreases-pieces : goal.decreases-pieces
decreases-pieces g l = INPUT_LIMIT - length l.bytes.items
