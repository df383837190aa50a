use Rattle.std.proofs.Common.{◌≡◌, ◌+◌, List, Option, get_or, set, sym, ap, subst, ◌∙◌}
use Rattle.std.specs.Prelude.{IfSome}
use Rattle.uhura_net.specs.declared.edge.Edge.{Edge}
use Rattle.uhura_net.specs.Table.{IsTable, IsEdgeFor}
use Rattle.uhura_net.specs.Circulation.{edges_of}
use Rattle.uhura_conflict.proofs.Among.{AreCopiedAmong, copied-more, copied-all}
use Rattle.uhura_conflict.proofs.revising.copy_among.Goals as goal

pub loop-number-init : goal.loop-number-init
loop-number-init c = record { table = c.requires.table; left = c.requires.differ }

pub loop-number-preserved : goal.loop-number-preserved
loop-number-preserved c =
    let to = c.loop-number.to in
    let from = c.args.from.now in
    let places = c.args.places.now in
    let index = c.loop-number.number-index in
    let here = get_or places index 0 in
    let sound : IfSome (edges_of from here) (IsEdgeFor here) = subst (λ (found : Option Edge). IfSome found (IsEdgeFor here)) c.get.ensures.edge c.get.ensures.sound in
    let same : c.put.new.self ≡ set to here (edges_of from here) = c.put.ensures.edges ∙ ap (set to here) c.get.ensures.edge in
    subst (λ (table : List (Option Edge)). AreCopiedAmong table from places (index + 1)) (sym same)
    (copied-more to from places index c.loop-number-test.true (c.requires.inside index 0 c.loop-number-test.true) sound c.loop-number.invariant)

pub returns : goal.returns
returns c =
    let same = copied-all c.loop-number.to c.args.from.now c.args.places.now c.loop-number.number-index c.loop-number-test.false c.requires.places c.loop-number.invariant in
    record { copied = same; sound = subst IsTable same c.loop-number.invariant.table }
