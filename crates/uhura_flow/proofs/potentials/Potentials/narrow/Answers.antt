use Rattle.std.proofs.Common.{◌≡◌, length, sym, ap, ◌∙◌}
use Rattle.std.proofs.lemmas.List.{with_items_is}
use Rattle.uhura_net.specs.Circulation.{edges_of}
use Rattle.uhura_flow.proofs.Kept.{IsKeptBelow-narrowed}
use Rattle.uhura_flow.proofs.potentials.Potentials.narrow.Goals as goal

pub invariant_of-self : goal.invariant_of-self
invariant_of-self c =
    let narrowed = c.narrow.ensures.narrowed in
    let same : length c.narrow.new.potentials ≡ length c.deref_mut.result.now = narrowed.nodes ∙ sym (ap length c.deref_mut.ensures.value ∙ c.self.invariant.nodes) in
    let marks : length c.narrow.new.touched ≡ length c.deref_mut-2.result.now = c.narrow.ensures.touched ∙ sym (ap length c.deref_mut-2.ensures.value ∙ c.self.invariant.marks) in
    IsKeptBelow-narrowed (edges_of c.args.net.now.edges) _ c.narrow.new.potentials _ c.narrow.new.touched _ narrowed c.narrow.ensures.touched
    (with_items_is c.self.inside.values c.narrow.new.potentials (same ∙ c.deref_mut.ensures.len))
    (with_items_is c.self.inside.touched c.narrow.new.touched (marks ∙ c.deref_mut-2.ensures.len))
