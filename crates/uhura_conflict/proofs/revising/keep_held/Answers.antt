use Rattle.std.proofs.Common.{◌≡◌, ◌<◌, false, length, inl, inr, arith}
use Rattle.std.proofs.lemmas.Bool.{cases_Bool}
use Rattle.std.proofs.lemmas.List.Filters.{FiltersInPlace-more_no, FiltersInPlace-more_set}
use Rattle.uhura_conflict.specs.Entries.{is_held}
use Rattle.uhura_conflict.proofs.Greatest.{true_false}
use Rattle.uhura_conflict.proofs.revising.keep_held.Goals as goal
use Rattle.uhura_conflict.proofs.revising.keep_held.Goals.{then-contains, else-contains}

pub loop-place-preserved : goal.loop-place-preserved
loop-place-preserved c =
    let inside : c.loop-place.place < length c.loop-place.order.items = omega (arith, c.loop-place.invariant.long, c.len-place-end.ensures, c.loop-place-test.true) in
    let key = c.index-key.result.now in
    elim c.if-contains.branch [
      | then-contains w ↦
          rw (w.order-is, w.kept-is) (FiltersInPlace-more_set c.loop-place.invariant inside (c.contains.ensures.0 w.if-contains.true) c.index-key.ensures)
      | else-contains w ↦
          let none : is_held c.args.entries.now key ≡ false = elim (cases_Bool (is_held c.args.entries.now key)) [
            | inl held ↦ absurd (true_false (c.contains.ensures.1 held) w.if-contains.false)
            | inr no_entry ↦ no_entry
          ] in
          rw (w.order-is, w.kept-is) (FiltersInPlace-more_no c.loop-place.invariant inside none c.index-key.ensures)
    ]
