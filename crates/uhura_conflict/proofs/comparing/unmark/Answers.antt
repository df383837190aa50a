use Rattle.std.proofs.Common.{◌<◌, false, get_or, ◌∙◌, arith, length-set}
use Rattle.uhura_net.specs.declared.place.TheConstants.{PLACES}
use Rattle.uhura_conflict.proofs.Among.{unmarked-more, unmarked-all}
use Rattle.uhura_conflict.proofs.comparing.unmark.Goals as goal

pub loop-number-preserved : goal.loop-number-preserved
loop-number-preserved c =
    let changed = c.loop-number.changed.items in
    let places = c.args.places.now in
    let index = c.loop-number.number-index in
    let here = get_or places index 0 in
    let small : here < PLACES = c.requires.inside index 0 c.loop-number-test.true in
    record {
      marks = length-set changed here false ∙ c.loop-number.invariant.marks;
      among = unmarked-more changed places index c.loop-number-test.true (omega (arith, small, c.loop-number.invariant.marks)) c.loop-number.invariant.among;
    }

pub returns : goal.returns
returns c =
    unmarked-all c.loop-number.changed.items c.args.places.now c.loop-number.number-index c.loop-number-test.false c.loop-number.invariant.marks c.loop-number.invariant.among
