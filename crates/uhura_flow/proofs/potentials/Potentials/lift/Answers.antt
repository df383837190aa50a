use Rattle.std.proofs.Common.{ℕ, ℤ, List, length, sym, subst, ap, ◌∙◌}
use Rattle.std.proofs.lemmas.List.{with_items_is}
use Rattle.uhura_net.specs.Edges.{time_at}
use Rattle.uhura_path.specs.Ways.{ArePotentials}
use Rattle.uhura_path.specs.Found.{IsLifted}
use Rattle.uhura_flow.proofs.Kept.{IsKeptBelow-lifted}
use Rattle.uhura_flow.proofs.potentials.Potentials.lift.Goals as goal

pub invariant_of-self : goal.invariant_of-self
invariant_of-self c =
    let distance = c.requires.reached.0 in
    let reached = c.requires.reached.1 in
    let cost : ℕ = c.args.found.now.cost in
    let before = c.self.inside.values.items in
    let after = c.lift.new.potentials in
    let lifted : IsLifted cost distance (time_at before) (time_at after) =
    subst (λ (l : List ℤ). IsLifted cost distance (time_at l) (time_at after)) c.deref_mut.ensures.value (c.lift.ensures distance reached) in
    let low : ArePotentials before = subst ArePotentials (sym c.self.view_is) c.requires.potentials in
    let nodes = c.lift.auto.potentials ∙ ap length c.deref_mut.ensures.value ∙ c.self.invariant.nodes in
    rw c.min.ensures
    (IsKeptBelow-lifted before after _ c.self.inside.highest cost c.self.inside.touched.items distance c.self.invariant low nodes lifted reached.most reached.fits
    (with_items_is c.self.inside.values after (c.lift.auto.potentials ∙ c.deref_mut.ensures.len)))
