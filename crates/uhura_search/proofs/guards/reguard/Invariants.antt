use Rattle.std.proofs.Common.{take}
use Rattle.std.specs.Prelude.{IsFalse}
use Rattle.uhura_search.specs.Refilled.{IsNoneMarked}
use Rattle.uhura_search.proofs.Reguarding.{AreWritten}
use Rattle.uhura_search.proofs.guards.reguard.Given as goal

-- the guards of the first requirements are written
abbrev pub invariant-loop-position : goal.invariant-loop-position
invariant-loop-position l = record {
  written : AreWritten (take l.position l.plan.requirements) l.fn.guards l.guards l.marks;
  none : IsFalse l.any → IsNoneMarked l.marks;
}
