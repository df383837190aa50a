use Rattle.uhura_flow.proofs.Lowering.{IsEachDone}
use Rattle.std.proofs.Common.{pos, false, cond, get_or}
use Rattle.uhura_flow.proofs.narrowing.clear_others.Given as goal

-- the potentials in front are cleared where there is no mark
abbrev pub invariant-loop-node : goal.invariant-loop-node
invariant-loop-node l = IsEachDone (λ node z. cond (get_or l.touched node false) z (pos 0)) l.initial.potentials l.potentials l.node
