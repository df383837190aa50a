use Rattle.std.proofs.Common.{None, ap}
use Rattle.uhura_flow.specs.Flow.{FlowState}
use Rattle.uhura_flow.proofs.Changing.{IsChanged-placed}
use Rattle.uhura_flow.proofs.flow.Flow.remove.Goals as goal

pub returns-in-Some : goal.returns-in-Some
returns-in-Some c =
    IsChanged-placed c.args.self.now _ c.self.inside.net c.args.place.0 None (ap (λ (f : FlowState). f.net) c.self.view_is) c.take_out.ensures
    (ap (λ (f : FlowState). f.settles) c.self.view_is) (ap (λ (f : FlowState). f.cycle) c.self.view_is)
