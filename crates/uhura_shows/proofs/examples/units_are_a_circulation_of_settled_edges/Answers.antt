use Rattle.std.proofs.Common.{[], refl, sym, true≢false, lit<, arith}
use Rattle.uhura_plan.specs.declared.key.Side.TheVariants.{Upper}
use Rattle.uhura_plan.specs.declared.key.EdgeKey.TheVariants.{Loose}
use Rattle.uhura_worst.specs.Examples.{requirement_side}
use Rattle.uhura_shows.specs.Examples.{flow, left}
use Rattle.uhura_shows.proofs.examples.units_are_a_circulation_of_settled_edges.Goals as goal

pub returns-clause-above : goal.returns-clause-above
returns-clause-above c = λ shows. omega (arith, ((shows.reasons 1 (flow left []) (lit< tt)).circulation.carried 0 (Loose (requirement_side 0 Upper), 0) (lit< tt)).within)

pub returns-clause-unbalanced : goal.returns-clause-unbalanced
returns-clause-unbalanced c = λ shows. omega (arith, (shows.reasons 1 (flow left []) (lit< tt)).circulation.balanced 0)

pub returns-clause-twice : goal.returns-clause-twice
returns-clause-twice c = λ shows. (shows.reasons 1 (flow left []) (lit< tt)).circulation.once 0 1 (Loose (requirement_side 0 Upper), 0) (lit< tt) (lit< tt) refl

pub returns-clause-inactive : goal.returns-clause-inactive
returns-clause-inactive c = λ shows. true≢false (sym ((shows.reasons 0 (flow left []) (lit< tt)).settled 1 (Loose (requirement_side 0 Upper)) (lit< tt)))

pub returns-clause-no_edge : goal.returns-clause-no_edge
returns-clause-no_edge c = λ shows. true≢false (sym ((shows.reasons 1 (flow left []) (lit< tt)).circulation.carried 0 (Loose (requirement_side 0 Upper), 0) (lit< tt)).there)
