use Rattle.std.proofs.Common.{sym, ◌∙◌, ap}
use Rattle.uhura_veto.specs.State.{State}
use Rattle.uhura_flow.specs.Flow.{flow_edges}
use Rattle.uhura_net.specs.Circulation.{edges_of}
use Rattle.uhura_search.proofs.Solved.{among-settled, reached-unstuck, within-range}
use Rattle.uhura_search.proofs.Touched.{touched-few}
use Rattle.uhura_search.proofs.solving.solve.Goals as goal

pub unreachable-requires : goal.unreachable-requires
unreachable-requires c =
    let state : State = record { plan = c.args.plan.now; vetoes = c.args.vetoes.now } in
    reached-unstuck state c.args.learning.now c.args.learning.now.flow c.move_to.new.flow c.args.best.now c.requires.ready c.requires.reached c.in-Stuck.ensures

pub returns-clause-within : goal.returns-clause-within
returns-clause-within c =
    let state : State = record { plan = c.args.plan.now; vetoes = c.args.vetoes.now } in
    let flow = c.reading.new.self in
    let branch = c.args.best.now.branch in
    within-range flow c.reading.ensures.sound
    (touched-few state branch (flow_edges flow) c.requires.ready.sound
    (among-settled state c.args.learning.now branch (flow_edges flow) c.requires.ready
    (λ place edge is. sym (c.in-Holds.ensures.edges place) ∙ (ap (λ net. edges_of net.edges place) (sym c.reading.ensures.net) ∙ is))))
    c.reading.ensures.range
