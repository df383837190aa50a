use Rattle.std.specs.Int.{w128}
use Rattle.std.proofs.Common.{rules, SFits, ◌≡◌, sym, subst}
use Rattle.std.proofs.lemmas.Int.{to_z-of_z}
use Rattle.uhura_net.specs.Net.{net_value}
use Rattle.uhura_search.specs.Learning.{IsCostValue}
use Rattle.uhura_search.proofs.Values.{flow-cost_value}
use Rattle.uhura_search.proofs.trying.value_of.Goals as goal

pub returns-clause-cost : goal.returns-clause-cost
returns-clause-cost c =
    let fits : SFits w128 c.value.result = search rules in
    let is : c.value.result ≡ net_value c.args.flow.now.net = c.value.ensures.value in
    subst IsCostValue (sym (to_z-of_z w128 c.value.result fits)) (subst IsCostValue (sym is) (flow-cost_value c.args.flow.now c.value.ensures.sound))
