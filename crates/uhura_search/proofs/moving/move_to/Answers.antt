use Rattle.uhura_search.specs.Moving.{marked_edges, active_edges}
use Rattle.uhura_search.proofs.Putting.{marked-active, whole-active, stuck-after, stuck-same, put-active}
use Rattle.uhura_search.proofs.moving.move_to.Goals as goal

pub returns-then-take_out : goal.returns-then-take_out
returns-then-take_out c =
    let table = c.args.table.now in
    let marks = c.mark_active.new.active in
    whole-active c.args.flow.now c.take_out.new.flow (marked_edges table marks) (active_edges table c.args.plan.now c.args.prefix.now) (marked-active table c.args.plan.now c.args.prefix.now marks c.mark_active.ensures)
    c.take_out.ensures.taken.among (c.take_out.ensures.whole c.if-take_out.true) c.take_out.ensures.taken.unsettled

pub returns-in-Stuck : goal.returns-in-Stuck
returns-in-Stuck c =
    let table = c.args.table.now in
    let marks = c.mark_active.new.active in
    let old = c.args.flow.now in
    let mid = c.take_out.new.flow in
    let new = c.put_in.new.flow in
    stuck-same old new (marked_edges table marks) (active_edges table c.args.plan.now c.args.prefix.now) (marked-active table c.args.plan.now c.args.prefix.now marks c.mark_active.ensures)
    (stuck-after old mid new (marked_edges table marks) c.take_out.ensures.taken.unsettled c.in-Stuck.ensures)

pub returns-in-Holds : goal.returns-in-Holds
returns-in-Holds c =
    let table = c.args.table.now in
    let marks = c.mark_active.new.active in
    put-active c.args.flow.now c.take_out.new.flow c.put_in.new.flow c.put_in-in-Holds.new.flow (marked_edges table marks) (active_edges table c.args.plan.now c.args.prefix.now) c.put_in-in-Holds.result
    (marked-active table c.args.plan.now c.args.prefix.now marks c.mark_active.ensures) c.take_out.ensures.taken.unsettled c.in-Holds.ensures c.put_in-in-Holds.ensures
