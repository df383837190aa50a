use Rattle.std.proofs.Common.{◌≡◌, ◌+◌, ◌-◌, ◌^◌, min, to_z, of_z, ap, ◌∙◌}
use Rattle.std.proofs.lemmas.Int.{to_z-of_z}
use mir.Syntax.{w128}
use Rattle.uhura_net.specs.Circulation.{edges_of}
use Rattle.uhura_flow.specs.Flow.{FlowState}
use Rattle.uhura_flow.proofs.Changing.{IsOptimalNet-prepared, IsReading-read, nodes_prepared}
use Rattle.uhura_flow.proofs.flow.Flow.reading.Goals as goal

pub invariant_of-self : goal.invariant_of-self
invariant_of-self c = record {
  sound = IsOptimalNet-prepared c.self.inside.net c.self.inside.potentials c.bring_down.new.self c.self.invariant.sound c.bring_down.ensures.prepared
      (nodes_prepared (edges_of c.self.inside.net.edges) c.self.inside.potentials c.bring_down.new.self c.self.invariant.sound.nodes c.bring_down.ensures.prepared);
  enough = c.self.invariant.enough;
  few = c.self.invariant.few;
}

pub returns : goal.returns
returns c =
    let nodes = nodes_prepared (edges_of c.self.inside.net.edges) c.self.inside.potentials c.bring_down.new.self c.self.invariant.sound.nodes c.bring_down.ensures.prepared in
    let sound = IsOptimalNet-prepared c.self.inside.net c.self.inside.potentials c.bring_down.new.self c.self.invariant.sound c.bring_down.ensures.prepared nodes in
    let read : to_z w128 (of_z w128 c.value.result) ≡ c.value.result = to_z-of_z w128 c.value.result (record { sfits = c.value.type_inv }) in
    IsReading-read c.args.self.now _ (to_z w128 (of_z w128 c.value.result)) sound (read ∙ c.value.ensures.value) c.bring_down.ensures.range (ap (λ (f : FlowState). f.net) c.self.view_is)
    (ap (λ (f : FlowState). f.cycle) c.self.view_is) (c.saturating_add-self-inside.ensures ∙ ap (λ (f : FlowState). min (f.settles + 1) (2 ^ 64 - 1)) c.self.view_is)
