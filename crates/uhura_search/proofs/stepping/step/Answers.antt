use Rattle.std.proofs.Common.{rules, SFits, to_z, of_z, ◌≡◌, ◌+◌, ◌≤◌, List, length, ap, subst, ◌∙◌, arith}
use Rattle.std.proofs.lemmas.Int.{to_z-of_z}
use Rattle.std.proofs.lemmas.List.{take_all}
use Rattle.std.specs.Int.{w128}
use Rattle.uhura_choice.specs.declared.prefix.Pick.{Pick}
use Rattle.uhura_net.specs.Net.{net_value}
use Rattle.uhura_search.specs.Moving.{HasMoved, active_edges}
use Rattle.uhura_search.specs.Shut.{IsDear}
use Rattle.uhura_search.proofs.Fronting.{front-taken, stuck-front, stuck-later, moved-among, next-taken, moved-both}
use Rattle.uhura_search.proofs.stepping.step.Goals as goal

pub returns-in-Stuck : goal.returns-in-Stuck
returns-in-Stuck c =
    let branch = c.args.branch.now in
    stuck-front c.args.table.now c.args.plan.now c.front_of.result branch (front-taken c.front_of.result branch c.shared-first.result c.front_of.ensures) c.args.flow.now c.move_to.new.flow c.in-Stuck.ensures

pub loop-len-init : goal.loop-len-init
loop-len-init c = record { stands = c.front_of.ensures; moved = c.in-Holds.ensures }

pub returns-then-is_dear : goal.returns-then-is_dear
returns-then-is_dear c =
    let branch = c.args.branch.now in
    let fits : SFits w128 c.value_of.result = search rules in
    let worth : to_z w128 (of_z w128 c.value_of.result) ≡ net_value c.loop-len.flow.net = to_z-of_z w128 c.value_of.result fits ∙ c.value_of.ensures.value in
    record {
      among = moved-among c.args.table.now c.args.plan.now c.loop-len.stands branch (front-taken c.loop-len.stands branch c.loop-len.len c.loop-len.invariant.stands) c.args.flow.now c.loop-len.flow c.loop-len.invariant.moved;
      dear = subst (λ value. IsDear c.args.plan.now c.args.best.now branch value) worth c.if-is_dear.ensures;
      unsettled = c.loop-len.invariant.moved.unsettled;
    }

pub go_on-moved-requires-clause-begins : goal.go_on-moved-requires-clause-begins
go_on-moved-requires-clause-begins c = next-taken c.loop-len.stands c.front_of-next.result c.args.branch.now c.loop-len.len c.loop-len.invariant.stands c.front_of-next.ensures

pub returns-in-Stuck-moved : goal.returns-in-Stuck-moved
returns-in-Stuck-moved c =
    let branch = c.args.branch.now in
    stuck-later c.args.table.now c.args.plan.now c.front_of-next.result branch (front-taken c.front_of-next.result branch (c.loop-len.len + 1) c.front_of-next.ensures) c.args.flow.now c.loop-len.flow c.go_on-moved.new.flow
    c.loop-len.invariant.moved.unsettled c.in-Stuck-moved.ensures

pub loop-len-preserved : goal.loop-len-preserved
loop-len-preserved c = record {
  stands = c.front_of-next.ensures;
  moved = moved-both c.args.flow.now c.loop-len.flow c.go_on-moved.new.flow (active_edges c.args.table.now c.args.plan.now c.front_of-next.result) c.loop-len.invariant.moved.unsettled c.in-Holds-moved.ensures;
}

pub returns : goal.returns
returns c =
    let branch = c.args.branch.now in
    let all : length branch ≤ c.loop-len.len = omega (arith, ap length c.entries-len-end.ensures.entries, c.loop-len-test.false) in
    let whole : c.loop-len.stands ≡ branch = c.loop-len.invariant.stands ∙ take_all c.loop-len.len branch all in
    subst (λ (picks : List Pick). HasMoved c.args.flow.now c.loop-len.flow (active_edges c.args.table.now c.args.plan.now picks)) whole c.loop-len.invariant.moved
