use Rattle.std.proofs.Common.{◌≡◌, get_or, ap, ◌∙◌}
use Rattle.std.specs.Prelude.{is_some}
use Rattle.uhura_net.specs.Circulation.{edges_of}
use Rattle.uhura_search.proofs.Relisting.{listed-more, listed-all}
use Rattle.uhura_search.proofs.taking.list_changed.Goals as goal

pub loop-number-preserved : goal.loop-number-preserved
loop-number-preserved c =
    let table = c.args.table.now in
    let changed = c.args.changed.now in
    let there : c.is_some.result ≡ is_some (edges_of table (get_or changed c.loop-number.number-index 0)) = c.is_some.ensures ∙ ap is_some c.get.ensures.edge in
    listed-more table changed c.loop-number.number-index c.loop-number.places c.set.new.self c.is_some.result c.loop-number-test.true there c.set.ensures c.loop-number.invariant

pub returns : goal.returns
returns c = listed-all c.args.table.now c.args.changed.now c.loop-number.number-index c.loop-number.places c.loop-number-test.false c.as_slice.ensures.sound c.loop-number.invariant
