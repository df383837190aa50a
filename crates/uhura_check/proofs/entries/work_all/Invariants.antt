use Rattle.std.proofs.Common.{◌≡◌}
use Rattle.uhura_check.specs.Entries.{AreWorkedOf}
use Rattle.uhura_check.specs.Failure.{told}
use Rattle.uhura_check.specs.Table.{entry_line}
use Rattle.uhura_check.proofs.entries.work_all.Given as goal

-- the first entries are worked out, and the line is that of the next
abbrev pub invariant-loop-place : goal.invariant-loop-place
invariant-loop-place l = record {
  worked : AreWorkedOf l.document l.place l.entries.items;
  line : l.line ≡ told (entry_line l.document l.place);
}
