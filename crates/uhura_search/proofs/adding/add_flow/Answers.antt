use Rattle.std.proofs.Common.{◌≡◌, List, Option, sym, ap, subst, ◌∙◌}
use Rattle.std.proofs.lemmas.Result.{on_ok_weaker}
use Rattle.uhura_net.specs.declared.edge.Edge.{Edge}
use Rattle.uhura_net.specs.Circulation.{edges_of}
use Rattle.uhura_net.specs.Net.{net_value}
use Rattle.uhura_flow.specs.Flow.{flow_edges, flow_units}
use Rattle.uhura_conflict.specs.Learned.{IsValid, flow_value}
use Rattle.uhura_conflict.specs.Store.{value_at}
use Rattle.uhura_search.proofs.Active.{used-among, used-together}
use Rattle.uhura_search.proofs.Valid.{flow-valid, flow-worth, flow-applies, net-value}
use Rattle.uhura_search.proofs.Values.{below-exceeds}
use Rattle.uhura_search.proofs.adding.add_flow.Goals as goal

pub flow_among-requires : goal.flow_among-requires
flow_among-requires c =
    let learning = c.args.learning.now in
    record {
      among = rw c.as_slice.ensures.listed (used-among learning.table c.args.plan.now c.args.branch.now c.choices.ensures.sound (flow_edges learning.flow) c.requires.among (flow_units learning.flow)
          c.value.ensures.sound.sound.circulates learning.places c.requires.listed);
      together = used-together learning.table c.args.plan.now c.args.branch.now c.choices.ensures.sound (flow_edges learning.flow) c.requires.among (flow_units learning.flow) c.value.ensures.sound.sound.circulates c.requires.is_branch;
    }

pub add-requires-clause-valid : goal.add-requires-clause-valid
add-requires-clause-valid c =
    let learning = c.args.learning.now in
    let conflict = c.in_ok-conflict.conflict in
    subst (λ (t : List (Option Edge)). IsValid (edges_of t) conflict) (sym c.requires.table)
    (flow-valid learning.table c.args.plan.now c.args.branch.now c.choices.ensures.sound (flow_edges learning.flow) c.requires.among (flow_units learning.flow) c.value.ensures.sound.sound.circulates conflict
    c.in_ok-conflict.ensures.flow c.in_ok-conflict.ensures.units)

pub add-requires-clause-applies : goal.add-requires-clause-applies
add-requires-clause-applies c =
    let learning = c.args.learning.now in
    let conflict = c.in_ok-conflict.conflict in
    flow-applies learning.table c.args.plan.now c.args.branch.now c.choices.ensures.sound (flow_edges learning.flow) c.requires.among (flow_units learning.flow) c.value.ensures.sound.sound.circulates conflict
    c.in_ok-conflict.ensures.flow c.in_ok-conflict.ensures.units c.in_ok-conflict.ensures.literals

pub add-requires-clause-exceeds : goal.add-requires-clause-exceeds
add-requires-clause-exceeds c =
    let learning = c.args.learning.now in
    let conflict = c.in_ok-conflict.conflict in
    let worth : flow_value (edges_of learning.table) conflict.pairs ≡ net_value learning.flow.net =
    flow-worth learning.table c.args.plan.now c.args.branch.now c.choices.ensures.sound (flow_edges learning.flow) c.requires.among (flow_units learning.flow) c.value.ensures.sound.sound.circulates conflict
    c.in_ok-conflict.ensures.flow c.in_ok-conflict.ensures.units ∙ sym (net-value learning.flow.net) in
    let held : value_at learning.store conflict ≡ net_value learning.flow.net = ap (λ (t : List (Option Edge)). flow_value (edges_of t) conflict.pairs) c.requires.table ∙ worth in
    record {
      bound = c.requires.more.bound;
      best = c.requires.more.best;
      exceeds = below-exceeds learning.store conflict c.requires.more.bound (net_value learning.flow.net) held c.requires.more.below;
    }

pub returns-clause-ok : goal.returns-clause-ok
returns-clause-ok c =
    let learning = c.args.learning.now in
    let conflict = c.in_ok-conflict.conflict in
    let worth : flow_value (edges_of learning.table) conflict.pairs ≡ net_value learning.flow.net =
    flow-worth learning.table c.args.plan.now c.args.branch.now c.choices.ensures.sound (flow_edges learning.flow) c.requires.among (flow_units learning.flow) c.value.ensures.sound.sound.circulates conflict
    c.in_ok-conflict.ensures.flow c.in_ok-conflict.ensures.units ∙ sym (net-value learning.flow.net) in
    on_ok_weaker c.add.result
    (λ has. (conflict, c.in_ok-conflict.ensures.flow, ap (λ (t : List (Option Edge)). flow_value (edges_of t) conflict.pairs) (has.adds.table ∙ c.requires.table) ∙ worth, has))
    c.add.ensures.ok
