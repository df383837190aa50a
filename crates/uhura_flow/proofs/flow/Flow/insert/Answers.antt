use Rattle.std.proofs.Common.{Some, ap, ◌∙◌}
use Rattle.uhura_flow.specs.Flow.{FlowState}
use Rattle.uhura_flow.proofs.Changing.{IsChanged-placed}
use Rattle.uhura_flow.proofs.flow.Flow.insert.Goals as goal

pub returns : goal.returns
returns c =
    IsChanged-placed c.args.self.now _ c.self.inside.net c.args.place.0 (Some c.args.edge) (ap (λ (f : FlowState). f.net) c.self.view_is ∙ c.if-is_stuck.ensures.net) c.put_in.ensures
    (ap (λ (f : FlowState). f.settles) c.self.view_is ∙ c.if-is_stuck.ensures.settles) (ap (λ (f : FlowState). f.cycle) c.self.view_is ∙ c.if-is_stuck.ensures.cycle)
