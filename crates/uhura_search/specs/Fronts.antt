-- Where the flow stops on the way to a branch.
use Rattle.std.specs.Prelude.{List, Option}
use Rattle.uhura_plan.specs.Lists.{Lists}
use Rattle.uhura_choice.specs.declared.prefix.Pick.{Pick}
use Rattle.uhura_net.specs.declared.edge.Edge.{Edge}
use Rattle.uhura_net.specs.Net.{net_value}
use Rattle.uhura_flow.specs.Flow.{FlowState, flow_edges}
use Rattle.uhura_search.specs.declared.incumbent.Incumbent.{Incumbent}
use Rattle.uhura_search.specs.declared.stepping.Stop.{Stop}
use Rattle.uhura_search.specs.declared.stepping.Stop.TheVariants.{Stuck, Dear, Open}
use Rattle.uhura_search.specs.Moving.{AreAmong, active_edges, IsUnsettled, IsStuckAmong, HasMoved}
use Rattle.uhura_search.specs.Shut.{IsDear}

-- the flow has some edges that are active in the branch, and what it is worth is enough for the best so far
pub record IsDearAmong (old new : FlowState) (table : List (Option Edge)) (plan : Lists)
    (best : Option Incumbent) (branch : List Pick) : Type 0 where
  pub among : AreAmong (flow_edges new) (active_edges table plan branch)
  pub dear : IsDear plan best branch (net_value new.net)
  pub unsettled : IsUnsettled old new

-- and else it has exactly those that are active in the branch
abbrev pub IsStopped : FlowState → FlowState → List (Option Edge) → Lists → Option Incumbent →
    List Pick → Stop → Type 0
IsStopped old new table plan best branch Stuck =
    IsStuckAmong old new (active_edges table plan branch)
IsStopped old new table plan best branch Dear = IsDearAmong old new table plan best branch
IsStopped old new table plan best branch Open =
    HasMoved old new (active_edges table plan branch)
