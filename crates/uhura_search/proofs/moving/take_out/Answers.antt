use Rattle.std.proofs.Common.{true≢false, get_or, sym, ◌∙◌}
use Rattle.uhura_net.specs.Circulation.{edges_of}
use Rattle.uhura_flow.specs.Flow.{flow_edges}
use Rattle.uhura_search.specs.Moving.{HasAll, marked_edges}
use Rattle.uhura_search.proofs.Putting.{among-more, among-all, all-more, all-all, present-more, marked-table, unsettled-both}
use Rattle.uhura_search.proofs.moving.take_out.Goals.{then-whole, else-whole}
use Rattle.uhura_search.proofs.moving.take_out.Goals as goal

pub loop-number-preserved : goal.loop-number-preserved
loop-number-preserved c =
    let taken = c.take_at.ensures in
    let table = c.args.table.now in
    let wanted = marked_edges table c.args.active.now in
    let place = get_or c.args.places.now c.loop-number.number-index 0 in
    let old = flow_edges c.loop-number.flow in
    let new = flow_edges c.take_at.new.flow in
    let own : HasAll new wanted place = λ edge is. sym c.wanted-edge.ensures.edge ∙ taken.own edge is in
    record {
      among = among-more c.args.places.now c.loop-number.number-index old new wanted c.loop-number-test.true c.loop-number.invariant.among taken.others own;
      present = present-more place old new (edges_of table) wanted c.loop-number.invariant.present taken.others own (marked-table table c.args.active.now place);
      unsettled = unsettled-both c.args.flow.now c.loop-number.flow c.take_at.new.flow c.loop-number.invariant.unsettled taken.unsettled;
      whole = λ all. elim c.if-whole.branch [
        | then-whole w ↦
            all-more c.args.places.now c.loop-number.number-index old new wanted c.loop-number-test.true (c.loop-number.invariant.whole w.if-whole.true) taken.others
            (λ edge is. w.has_at-whole.ensures (sym w.whole-is ∙ all) ∙ (c.wanted-edge.ensures.edge ∙ is))
        | else-whole w ↦ absurd (true≢false (sym all ∙ w.whole-is ∙ w.if-whole.false))
      ];
    }

pub returns-clause-taken : goal.returns-clause-taken
returns-clause-taken c = record {
  among = among-all c.args.table.now c.args.places.now c.loop-number.number-index (flow_edges c.loop-number.flow) (marked_edges c.args.table.now c.args.active.now) c.requires.listed c.loop-number-test.false
      c.loop-number.invariant.present c.loop-number.invariant.among;
  unsettled = c.loop-number.invariant.unsettled;
}

pub returns-clause-whole : goal.returns-clause-whole
returns-clause-whole c all =
    all-all c.args.table.now c.args.places.now c.loop-number.number-index c.args.active.now (flow_edges c.loop-number.flow) c.requires.listed c.loop-number-test.false (c.loop-number.invariant.whole all)
