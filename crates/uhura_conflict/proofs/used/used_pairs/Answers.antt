use Rattle.std.proofs.Common.{ℕ, List, sym, subst, arith}
use Rattle.uhura_net.specs.declared.place.Place.{Place}
use Rattle.uhura_flow.specs.Flow.{flow_units}
use Rattle.uhura_conflict.specs.Used.{AreUsedBelow}
use Rattle.uhura_conflict.proofs.Using.{used-none}
use Rattle.uhura_conflict.proofs.used.used_pairs.Goals as goal

pub loop-number-init : goal.loop-number-init
loop-number-init c = (
  subst (λ (pairs : List (Place × ℕ)). AreUsedBelow (flow_units c.args.net.now) pairs 0) (sym c.new-pairs.ensures.items) (used-none (flow_units c.args.net.now)),
  λ some. absurd (omega arith),
)
