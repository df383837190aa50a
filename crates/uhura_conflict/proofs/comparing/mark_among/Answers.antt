use Rattle.std.proofs.Common.{sym, ◌∙◌}
use Rattle.uhura_conflict.proofs.Among.{among-none, among-same, among-marked, among-all, among-equal}
use Rattle.uhura_conflict.proofs.comparing.mark_among.Goals as goal
use Rattle.uhura_conflict.proofs.comparing.mark_among.Goals.{then-not-is_same, else-not-is_same}

pub loop-number-init : goal.loop-number-init
loop-number-init c = among-none c.args.old.now c.args.new.now c.args.changed.now.items c.args.places.now c.requires.differ c.requires.cleared

pub loop-number-preserved : goal.loop-number-preserved
loop-number-preserved c =
    let old = c.args.old.now in
    let new = c.args.new.now in
    let changed = c.loop-number.changed.items in
    let any = c.loop-number.any in
    let places = c.args.places.now in
    let index = c.loop-number.number-index in
    let so_far = c.loop-number.invariant in
    elim c.if-not-is_same.branch [
      | then-not-is_same w ↦ rw (w.changed-is, w.any-is) (among-marked old new changed any places index c.loop-number-test.true (c.requires.inside index 0 c.loop-number-test.true) so_far)
      | else-not-is_same w ↦
          let same = sym c.get-in-loop-number-2.ensures.edge ∙ (c.is_same.ensures w.if-not-is_same.false ∙ c.get-in-loop-number.ensures.edge) in
          rw (w.changed-is, w.any-is) (among-same old new changed any places index c.loop-number-test.true same so_far)
    ]

pub returns : goal.returns
returns c =
    let old = c.args.old.now in
    let new = c.args.new.now in
    let changed = c.loop-number.changed.items in
    let any = c.loop-number.any in
    let places = c.args.places.now in
    let index = c.loop-number.number-index in
    let so_far = c.loop-number.invariant in
    record {
      marked = among-all old new changed any places index c.loop-number-test.false c.requires.table so_far;
      among = so_far.among;
      places = c.get.ensures.places;
      same = λ nothing. among-equal old new changed any places index c.loop-number-test.false c.requires.table.places c.get.ensures.places so_far nothing;
      none = so_far.none;
    }
