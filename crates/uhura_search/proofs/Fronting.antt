-- The edges that are active after some first picks of a branch are active in the branch.
use Rattle.std.proofs.Common.{◌≡◌, ℕ, ◌+◌, Bool, true, List, ◌++◌, take, drop, Option, None, sym, ap, subst, ◌∙◌, arith, take-append-drop}
use Rattle.std.specs.Prelude.{if◌then◌else◌}
use Rattle.std.proofs.lemmas.List.{take-take}
use Rattle.uhura_plan.specs.Lists.{Lists}
use Rattle.uhura_choice.specs.declared.prefix.Pick.{Pick}
use Rattle.uhura_choice.specs.Order.{IsFrontOf}
use Rattle.uhura_net.specs.declared.edge.Edge.{Edge}
use Rattle.uhura_net.specs.Edges.{Edges}
use Rattle.uhura_net.specs.Circulation.{edges_of}
use Rattle.uhura_flow.specs.Flow.{FlowState, flow_edges}
use Rattle.uhura_worst.specs.Edges.{item_of, is_active_edge}
use Rattle.uhura_dual.specs.Settled.{key_at}
use Rattle.uhura_dual.proofs.Beginnings.{active-more}
use Rattle.uhura_search.specs.Moving.{AreAmong, active_edges, IsUnsettled, IsStuckAmong, HasMoved}
use Rattle.uhura_search.proofs.Active.{among-active, among-table, among-both}
use Rattle.uhura_search.proofs.Putting.{unsettled-both, stuck-after}

module _ (table : List (Option Edge)) (plan : Lists) (front branch : List Pick) (begins : IsFrontOf front branch) where
  pub front-among : AreAmong (active_edges table plan front) (active_edges table plan branch)
  front-among place edge is =
      let more : is_active_edge plan (front ++ begins.0) (key_at place) ≡ true = active-more plan (item_of (key_at place)) front begins.0 (among-active table plan front place edge is) in
      let active : is_active_edge plan branch (key_at place) ≡ true = ap (λ (picks : List Pick). is_active_edge plan picks (key_at place)) begins.1 ∙ more in
      ap (λ (b : Bool). if b then edges_of table place else None) active ∙ among-table table plan front place edge is

  -- the flow is stuck on the way
  pub stuck-front : (a c : FlowState) → IsStuckAmong a c (active_edges table plan front) → IsStuckAmong a c (active_edges table plan branch)
  stuck-front a c stuck = record {
    among = among-both (flow_edges c) (active_edges table plan front) (active_edges table plan branch) stuck.among front-among;
    edges = stuck.edges;
    some = among-both stuck.edges (active_edges table plan front) (active_edges table plan branch) stuck.some front-among;
    walk = stuck.walk;
    pushes = stuck.pushes;
    settles = stuck.settles;
  }

  pub stuck-later : (a b c : FlowState) → IsUnsettled a b → IsStuckAmong b c (active_edges table plan front) → IsStuckAmong a c (active_edges table plan branch)
  stuck-later a b c before stuck = stuck-after a b c (active_edges table plan branch) before (stuck-front b c stuck)

  -- it stands there
  pub moved-among : (b c : FlowState) → HasMoved b c (active_edges table plan front) → AreAmong (flow_edges c) (active_edges table plan branch)
  moved-among b c moved place edge is = front-among place edge (sym (moved.edges place) ∙ is)

-- the first picks of a branch begin it, and those after one more
pub front-taken : (front branch : List Pick) (len : ℕ) → front ≡ take len branch → IsFrontOf front branch
front-taken front branch len is = subst (λ (picks : List Pick). IsFrontOf picks branch) (sym is) (drop len branch, sym (take-append-drop len branch))

pub next-taken : (front next branch : List Pick) (len : ℕ) → front ≡ take len branch → next ≡ take (len + 1) branch → IsFrontOf front next
next-taken front next branch len is one = front-taken front next len (is ∙ (sym (take-take len (len + 1) branch (omega arith)) ∙ ap (take len) (sym one)))

-- a move after a move
pub moved-both : (a b c : FlowState) (wanted : Edges) → IsUnsettled a b → HasMoved b c wanted → HasMoved a c wanted
moved-both a b c wanted before moved = record { edges = moved.edges; unsettled = unsettled-both a b c before moved.unsettled }
