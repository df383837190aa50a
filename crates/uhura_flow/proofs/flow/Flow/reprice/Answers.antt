use Rattle.std.proofs.Common.{◌≡◌, Option, Some, to_z, of_z, w64, sym, ap, subst, ◌∙◌}
use Rattle.uhura_net.specs.declared.edge.Edge.{Edge}
use Rattle.uhura_flow.specs.Flow.{FlowState, flow_edges}
use Rattle.uhura_flow.specs.Changes.{repriced}
use Rattle.uhura_flow.specs.Placing.{IsPlaced}
use Rattle.uhura_flow.proofs.Kept.{bound_read}
use Rattle.uhura_flow.proofs.Changing.{IsChanged-placed, repriced_is}
use Rattle.uhura_flow.proofs.flow.Flow.reprice.Goals as goal

pub returns-in-Some : goal.returns-in-Some
returns-in-Some c =
    let old = c.in-Some.old in
    let place = c.args.place.0 in
    let there : flow_edges c.args.self.now place ≡ Some old = sym (ap (λ (f : FlowState). flow_edges f place) c.self.view_is) ∙ sym c.edge.ensures.edge ∙ c.in-Some.is in
    let edge_is = repriced_is c.args.self.now place old c.args.capacity (to_z w64 (of_z w64 old.bound)) there (bound_read old.bound c.in-Some.ensures.there.least c.in-Some.ensures.there.most) in
    let placed = subst (λ (e : Option Edge). IsPlaced c.self.inside.net c.repay.new.net c.repay.new.potentials place e) edge_is c.repay.ensures in
    IsChanged-placed c.args.self.now _ c.self.inside.net place (Some (repriced c.args.self.now place c.args.capacity)) (ap (λ (f : FlowState). f.net) c.self.view_is) placed
    (ap (λ (f : FlowState). f.settles) c.self.view_is) (ap (λ (f : FlowState). f.cycle) c.self.view_is)
