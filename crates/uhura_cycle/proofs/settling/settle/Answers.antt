use Rattle.std.proofs.Common.{◌≡◌, ◌∙◌}
use Rattle.std.proofs.lemmas.List.{take_at}
use Rattle.uhura_net.specs.Edges.{chosen_edges}
use Rattle.uhura_cycle.proofs.settling.settle.Goals as goal

pub returns-in-None : goal.returns-in-None
returns-in-None c =
    let times : c.deref-in-None.result.now ≡ c.descend-found.new.times = c.deref-in-None.ensures.value ∙ take_at _ _ _ (c.descend-found.auto.times ∙ c.deref_mut-2.ensures.len) in
    rw times (rw c.deref_mut.ensures.value at c.in-None.ensures.found (chosen_edges c.args.table.now c.args.chosen.now) c.gather.ensures.steps)

pub returns-in-Some : goal.returns-in-Some
returns-in-Some c =
    let walk : c.deref-in-Some.result.now ≡ c.descend-found.new.walk = c.deref-in-Some.ensures.value ∙ take_at _ _ _ (c.descend-found.auto.walk ∙ c.deref_mut-5.ensures.len) in
    rw walk (rw c.deref_mut.ensures.value at c.in-Some.ensures.found (chosen_edges c.args.table.now c.args.chosen.now) c.gather.ensures.steps)
