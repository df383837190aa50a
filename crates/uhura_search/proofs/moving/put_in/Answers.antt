use Rattle.std.proofs.Common.{rules, ◌≡◌, get_or, ap, ◌∙◌}
use Rattle.uhura_flow.specs.Flow.{flow_edges}
use Rattle.uhura_search.specs.Moving.{marked_edges, put_at}
use Rattle.uhura_search.proofs.Putting.{put-among, put-kept, put-there, there-more, there-all, unsettled-both, stuck-among}
use Rattle.uhura_search.proofs.moving.put_in.Goals as goal

pub loop-number-preserved-then-is_loose-loose : goal.loop-number-preserved-then-is_loose-loose
loop-number-preserved-then-is_loose-loose c =
    let held = flow_edges c.loop-number.flow in
    record {
      among = c.loop-number.invariant.among;
      kept = c.loop-number.invariant.kept;
      there = there-more c.args.places.now c.loop-number.number-index c.args.loose held held (marked_edges c.args.table.now c.args.active.now) c.loop-number-test.true c.loop-number.invariant.there
          (λ place edge is. is) (λ kind. let no : ⊥ = search rules in absurd no);
      unsettled = c.loop-number.invariant.unsettled;
    }

pub returns-in-Stuck : goal.returns-in-Stuck
returns-in-Stuck c =
    let place = get_or c.args.places.now c.loop-number.number-index 0 in
    stuck-among c.args.flow.now c.loop-number.flow c.put_at.new.flow (marked_edges c.args.table.now c.args.active.now) place c.wanted-edge.result
    (c.requires.listed.inside c.loop-number.number-index 0 c.loop-number-test.true) c.loop-number.invariant.among c.wanted-edge.ensures.edge c.loop-number.invariant.unsettled c.in-Stuck.ensures

pub loop-number-preserved : goal.loop-number-preserved
loop-number-preserved c =
    let put = c.in-Holds.ensures in
    let place = get_or c.args.places.now c.loop-number.number-index 0 in
    let old = flow_edges c.loop-number.flow in
    let new = flow_edges c.put_at.new.flow in
    let wanted = marked_edges c.args.table.now c.args.active.now in
    let own : new place ≡ put_at (old place) (wanted place) = put.own ∙ ap (put_at (old place)) c.wanted-edge.ensures.edge in
    let among = c.loop-number.invariant.among in
    let kept = put-kept place old new (wanted place) put.others own in
    record {
      among = put-among place old new wanted among put.others own;
      kept = λ other edge is. kept other edge (c.loop-number.invariant.kept other edge is);
      there = there-more c.args.places.now c.loop-number.number-index c.args.loose old new wanted c.loop-number-test.true c.loop-number.invariant.there kept (λ kind. put-there place old new wanted among own);
      unsettled = unsettled-both c.args.flow.now c.loop-number.flow c.put_at.new.flow c.loop-number.invariant.unsettled put.unsettled;
    }

pub returns : goal.returns
returns c = record {
  among = c.loop-number.invariant.among;
  kept = c.loop-number.invariant.kept;
  there = there-all c.args.table.now c.args.places.now c.loop-number.number-index c.args.active.now c.args.loose (flow_edges c.loop-number.flow) c.requires.listed c.loop-number-test.false c.loop-number.invariant.there;
  unsettled = c.loop-number.invariant.unsettled;
}
