use Rattle.uhura_cycle.specs.Steps.{in_order}
use Rattle.uhura_cycle.proofs.Passing.{IsPassSoFar}
use Rattle.uhura_cycle.proofs.following.make_pass.Given as goal

-- the steps so far make part of a pass
abbrev pub invariant-loop-taken : goal.invariant-loop-taken
invariant-loop-taken l =
    IsPassSoFar (in_order l.fn.backward l.steps) l.fn.lowest l.taken (record { times = l.initial.times; backs = l.initial.backs }) (record { times = l.times; backs = l.backs }) l.last
