use Rattle.std.proofs.Common.{◌≡◌, Option, Some, to_z, of_z, w64, sym, ap, subst, ◌∙◌}
use Rattle.uhura_net.specs.declared.edge.Edge.{Edge}
use Rattle.uhura_flow.specs.Flow.{FlowState, flow_edges}
use Rattle.uhura_flow.specs.Changes.{rebounded}
use Rattle.uhura_flow.specs.Placing.{IsPlaced}
use Rattle.uhura_flow.proofs.Kept.{bound_read}
use Rattle.uhura_flow.proofs.Changing.{IsChanged-placed, rebounded_is}
use Rattle.uhura_flow.proofs.flow.Flow.rebound.Goals as goal

pub returns : goal.returns
returns c =
    let old = c.in-Some.old in
    let place = c.args.place.0 in
    let there : flow_edges c.args.self.now place ≡ Some old = sym (ap (λ (f : FlowState). flow_edges f place) c.self.view_is) ∙ sym c.edge.ensures.edge ∙ c.in-Some.is in
    let edge_is = rebounded_is c.args.self.now place old c.args.bound (to_z w64 (of_z w64 c.args.bound)) there (bound_read c.args.bound c.requires.bound.least c.requires.bound.most) in
    let placed = subst (λ (e : Option Edge). IsPlaced c.self-2.inside.net c.rebind.new.net c.rebind.new.potentials place e) edge_is c.rebind.ensures in
    IsChanged-placed c.args.self.now _ c.self-2.inside.net place (Some (rebounded c.args.self.now place c.args.bound))
    (ap (λ (f : FlowState). f.net) c.self-2.view_is ∙ c.if-is_stuck.ensures.net) placed
    (ap (λ (f : FlowState). f.settles) c.self-2.view_is ∙ c.if-is_stuck.ensures.settles)
    (ap (λ (f : FlowState). f.cycle) c.self-2.view_is ∙ c.if-is_stuck.ensures.cycle)
