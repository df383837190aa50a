use Rattle.std.specs.List.Sorted.{IsPermutation}
use Rattle.uhura_net.specs.Edges.{Edges}
use Rattle.uhura_cycle.specs.Steps.{AreStepsOf}
use Rattle.uhura_cycle.proofs.Passing.{course_over}
use Rattle.uhura_cycle.proofs.Rounds.{IsReady}
use Rattle.uhura_cycle.proofs.descending.descend.Given as goal

-- the steps only moved, and no pass so far closed a walk
abbrev pub invariant-loop-number : goal.invariant-loop-number
invariant-loop-number l = record {
  moved : IsPermutation l.initial.steps l.steps;
  ready : (edges : Edges) → AreStepsOf edges l.initial.steps →
      IsReady (course_over l.initial.steps l.lowest edges) l.number (record { times = l.times; backs = l.backs });
}
