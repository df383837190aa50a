use Rattle.std.proofs.Common.{rules, ◌≡◌, true, true≢false, sym, ◌∙◌}
use Rattle.uhura_search.proofs.Refills.{none-before, none-kept, none-emptied, none-all, lists-none, lists-both}
use Rattle.uhura_search.proofs.refilling.empty_gone.Goals.{then-not-is_item, else-not-is_item}
use Rattle.uhura_search.proofs.refilling.empty_gone.Goals as goal

pub loop-number-init : goal.loop-number-init
loop-number-init c = record {
  none = none-before c.args.plan.now c.args.places.now c.args.table.now c.requires.each;
  changed = lists-none c.args.table.now c.args.changed.now;
}

pub loop-number-preserved : goal.loop-number-preserved
loop-number-preserved c =
    let plan = c.args.plan.now in
    let places = c.args.places.now in
    let key = c.key_of-key.result in
    let number = c.key_of-key.ensures in
    let before = c.loop-number in
    elim c.if-not-is_item.branch [
      | then-not-is_item w ↦
          rw (w.table-is, w.changed-is) (record {
            none = none-emptied plan places before.number-index key c.loop-number-test.true number.has_place number.place before.table w.refill_at.new.table w.refill_at.ensures.edge before.invariant.none;
            changed = lists-both c.args.table.now before.table w.refill_at.new.table c.args.changed.now before.changed w.refill_at.new.changed before.invariant.changed w.refill_at.ensures.changed;
          })
      | else-not-is_item w ↦
          let there : c.is_item.result ≡ true = search rules in
          rw (w.table-is, w.changed-is) (record {
            none = none-kept plan places before.number-index key c.loop-number-test.true number.has_place number.place before.table (λ gone. true≢false (sym there ∙ c.is_item.ensures gone)) before.invariant.none;
            changed = before.invariant.changed;
          })
    ]

pub returns-clause-gone : goal.returns-clause-gone
returns-clause-gone c = none-all c.args.plan.now c.args.places.now c.loop-number.number-index c.loop-number.table c.loop-number-test.false c.loop-number.invariant.none
