use Rattle.uhura_cycle.proofs.Trails.{IsTracing}
use Rattle.uhura_cycle.proofs.tracing.trace.Given as goal

abbrev pub invariant-loop-taken : goal.invariant-loop-taken
invariant-loop-taken l = IsTracing l.backs l.start l.taken l.visits l.walk l.node
