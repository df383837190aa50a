use Rattle.std.proofs.Common.{◌≡◌, ◌∙◌, ap, Bool, false, List, length, get_or, replicate, slice_index_or}
use Rattle.uhura_plan.proofs.Slots.{get_or-replicate_default}
use Rattle.std.specs.Prelude.{◌||◌}
use Rattle.uhura_net.specs.Circulation.{edges_of}
use Rattle.uhura_flow.specs.Reading.{touches}
use Rattle.uhura_flow.proofs.Marking.{AreMarked-none, AreMarked-more}
use Rattle.uhura_flow.proofs.narrowing.mark_touched.Goals as goal

pub loop-number-init : goal.loop-number-init
loop-number-init c =
    let none : c.fill.new.self ≡ replicate (length c.args.touched.now) false = c.fill.ensures.after (λ y same. same) in
    AreMarked-none (edges_of c.args.net.now.edges) c.fill.new.self (c.fill.ensures.len ∙ c.requires)
    (λ node _. ap (λ (m : List Bool). get_or m node false) none ∙ get_or-replicate_default (length c.args.touched.now) node false)

pub loop-number-preserved : goal.loop-number-preserved
loop-number-preserved c =
    AreMarked-more c.loop-number.number (edges_of c.args.net.now.edges) c.loop-number.touched c.mark_nodes.new.touched c.loop-number.invariant c.mark_nodes.ensures.nodes
    (λ node. c.mark_nodes.ensures.each node ∙ ap (λ e. slice_index_or c.loop-number.touched node false || touches e node) c.edge.ensures.edge)
