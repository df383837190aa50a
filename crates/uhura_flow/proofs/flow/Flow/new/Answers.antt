use Rattle.std.proofs.Common.{arith}
use Rattle.uhura_flow.proofs.Changing.{IsOptimalNet-empty}
use Rattle.uhura_flow.proofs.flow.Flow.new.Goals as goal

pub invariant_of-result : goal.invariant_of-result
invariant_of-result c = record {
  sound = IsOptimalNet-empty c.in_ok-new.field-0 c.in_ok-new-2.field-0 c.in_ok-new.ensures.net c.in_ok-new.ensures.sound c.in_ok-new-2.ensures;
  enough = c.in_ok-vec.ensures.len;
  few = omega arith;
}

pub returns-clause-sound : goal.returns-clause-sound
returns-clause-sound c = IsOptimalNet-empty c.in_ok-new.field-0 c.in_ok-new-2.field-0 c.in_ok-new.ensures.net c.in_ok-new.ensures.sound c.in_ok-new-2.ensures
